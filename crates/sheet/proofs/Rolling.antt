-- A row rolled back by one step, node by node. Assumes nothing.
use Rattle.std.proofs.Common.{◌≡◌, ℕ, ◌+◌, ◌<◌, ◌≤◌, List, ◌++◌, map, length, get_or, take, sym, ap, ◌∙◌, arith}
use Rattle.std.specs.List.{range_with_len}
use Rattle.std.proofs.lemmas.List.{get_or_append_left}
use Rattle.std.proofs.lemmas.List.FromFn.{length-map-range_with_len, get_or-map-range_with_len}
use Rattle.std.proofs.lemmas.Simd.{map-map}
use Rattle.rates.specs.Model.{Model, Lawful, capped}
use Rattle.game.specs.declared.terms.Terms.{Terms}
use Rattle.game.specs.Game.{coupon, rolled_on}
use Rattle.sheet.proofs.Tables.{front}

-- from the next step's row with its coupon added and capped, and the rolled figures of that
pub rolled_node : {m : Model} → Lawful m → (b : Terms) (s t n w : ℕ) (row added out rest : List ℕ) →
    n ≡ m.count t → w ≡ m.count (t + 1) → w ≤ length row →
    added ≡ map (λ x. capped (x + coupon b (t + 1))) (take w row) → out ≡ map (λ j. m.rolled t j s added) (range_with_len 0 n) →
    (j : ℕ) → j < m.count t → get_or (out ++ rest) j 0 ≡ rolled_on m b s t j (λ i. get_or row i 0)
rolled_node {m} laws b s t n w row added out rest en ew fits ea eo j h =
    let plus : ℕ → ℕ = λ x. x + coupon b (t + 1) in
    let F : ℕ → ℕ = λ k. m.rolled t k s added in
    let e : added ≡ map capped (map (λ i. get_or row i 0 + coupon b (t + 1)) (range_with_len 0 (m.count (t + 1)))) =
    ea ∙ sym (map-map capped plus (take w row)) ∙ ap (λ xs. map capped (map plus xs)) (front row w fits ∙ ap (λ k. map (λ i. get_or row i 0) (range_with_len 0 k)) ew) ∙ ap (map capped) (map-map plus (λ i. get_or row i 0) (range_with_len 0 (m.count (t + 1)))) in
    ap (λ xs. get_or (xs ++ rest) j 0) eo
    ∙ get_or_append_left (map F (range_with_len 0 n)) rest 0 j (omega (arith, length-map-range_with_len F 0 n))
    ∙ get_or-map-range_with_len F 0 n j j 0 (omega arith) (omega arith)
    ∙ ap (m.rolled t j s) e
    ∙ sym (laws.caps t j s (map (λ i. get_or row i 0 + coupon b (t + 1)) (range_with_len 0 (m.count (t + 1)))))
