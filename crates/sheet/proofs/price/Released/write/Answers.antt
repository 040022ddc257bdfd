use Rattle.std.proofs.Common.{◌≡◌, ℕ, ◌+◌, ◌^◌, ◌<◌, ◌≤◌, true, leb, List, length, decimal, ap, ◌∙◌, set, arith, rules}
use Rattle.std.proofs.lemmas.Fmt.{length-decimal-le}
use Rattle.std.proofs.lemmas.Bool.{le-leb}
use Rattle.sheet.specs.Prices.{laid}
use Rattle.sheet.proofs.Laid.{two_words}
use Rattle.sheet.proofs.price.Released.write.Goals as goal

short : (n : ℕ) → n < 2 ^ 32 → length (decimal n) ≤ 10
short n h = length-decimal-le 10 n (omega arith) (omega arith) (omega arith)

pub returns : goal.returns
returns c =
    let d : List ℕ = c.args.out.now in
    let t : leb 64 (length d) ≡ true = le-leb _ _ (omega arith) in
    let x : ℕ = c.args.self.now.figure in
    let y : ℕ = c.args.self.now.spread in
    let f : c.as_bytes.result.now ≡ decimal x = cc in
    let s : c.as_bytes-2.result.now ≡ decimal y = cc in
    let a = c.lay-blank.ensures in
    let b = c.lay-end.ensures in
    let p = two_words d _ _ (decimal x) (decimal y) _ _ (short x (search rules)) (short y (search rules)) (omega arith)
    (a.laid ∙ ap (laid d 0) f) (a.place ∙ ap (λ (z : List ℕ). 0 + length z) f) (b.laid ∙ ap (laid (set c.lay-blank.new.out c.lay-blank.result 32) (c.lay-blank.result + 1)) s) (b.place ∙ ap (λ (z : List ℕ). c.lay-blank.result + 1 + length z) s) in
    record { answers = rw (t, p.0); bytes = rw t p.1 }
