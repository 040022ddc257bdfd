-- Bytes written over others, piece after piece. Assumes nothing.
use Rattle.std.proofs.Common.{◌≡◌, ℕ, ◌+◌, ◌<◌, ◌≤◌, List, [], ◌∷◌, ◌++◌, length, get_or, take, drop, set, sym, ap, ◌∙◌, arith}
use Rattle.std.proofs.lemmas.List.{append_assoc, length-append, length-take-le, length_push, drop_more, set_at, take_at, drop_at, drop-drop}
use Rattle.sheet.specs.Prices.{laid}

-- what stands before the place after s, and after it
front : (d : List ℕ) (at : ℕ) (s : List ℕ) → at ≤ length d → length (take at d ++ s) ≡ at + length s
front d at s h = simp (length-append, length-take-le)

-- one byte more
pub laid_more : (d : List ℕ) (at : ℕ) (s : List ℕ) (b : ℕ) → at + length s < length d → set (laid d at s) (at + length s) b ≡ laid d at (s ++ b ∷ [])
laid_more d at s b h =
    let a : at ≤ length d = omega arith in
    let e : laid d at s ≡ (take at d ++ s) ++ (get_or d (at + length s) 0 ∷ drop (at + length s + 1) d) =
    ap (λ (x : List ℕ). take at d ++ (s ++ x)) (drop_more d (at + length s) 0 h) ∙ sym (append_assoc (take at d) s _) in
    let f : at + length (s ++ b ∷ []) ≡ at + length s + 1 = omega (arith, length_push s b) in
    ap (λ (x : List ℕ). set x (at + length s) b) e
    ∙ set_at (take at d ++ s) _ _ b (at + length s) (front d at s a)
    ∙ append_assoc (take at d) s _
    ∙ ap (λ (x : List ℕ). take at d ++ x) (sym (append_assoc s (b ∷ []) _))
    ∙ ap (λ (x : ℕ). take at d ++ ((s ++ b ∷ []) ++ drop x d)) (sym f)

-- a second piece
pub laid_laid : (d : List ℕ) (at : ℕ) (s t : List ℕ) → at + length s ≤ length d → laid (laid d at s) (at + length s) t ≡ laid d at (s ++ t)
laid_laid d at s t h =
    let a : at ≤ length d = omega arith in
    let e : laid d at s ≡ (take at d ++ s) ++ drop (at + length s) d = sym (append_assoc (take at d) s _) in
    let f : at + length (s ++ t) ≡ at + length s + length t = omega (arith, length-append s t) in
    let p : take (at + length s) (laid d at s) ≡ take at d ++ s = ap (take (at + length s)) e ∙ take_at (take at d ++ s) _ _ (front d at s a) in
    let q : drop (at + length s) (laid d at s) ≡ drop (at + length s) d = ap (drop (at + length s)) e ∙ drop_at (take at d ++ s) _ _ (front d at s a) in
    let r : drop (at + length s + length t) (laid d at s) ≡ drop (at + length (s ++ t)) d =
    sym (drop-drop (length t) (at + length s) (laid d at s)) ∙ ap (drop (length t)) q ∙ drop-drop (length t) (at + length s) d ∙ ap (λ (x : ℕ). drop x d) (sym f) in
    ap (λ (x : List ℕ). x ++ (t ++ drop (at + length s + length t) (laid d at s))) p
    ∙ ap (λ (x : List ℕ). (take at d ++ s) ++ (t ++ x)) r
    ∙ append_assoc (take at d) s _
    ∙ ap (λ (x : List ℕ). take at d ++ x) (sym (append_assoc s t _))

-- two numbers with a byte after each
pub two_words : (d o1 o2 f s : List ℕ) (a e : ℕ) → length f ≤ 10 → length s ≤ 10 → 64 ≤ length d → o1 ≡ laid d 0 f → a ≡ 0 + length f → o2 ≡ laid (set o1 a 32) (a + 1) s → e ≡ a + 1 + length s → (e + 1 ≡ length (f ++ (32 ∷ (s ++ (10 ∷ []))))) × (set o2 e 10 ≡ (f ++ (32 ∷ (s ++ (10 ∷ [])))) ++ drop (length (f ++ (32 ∷ (s ++ (10 ∷ []))))) d)
two_words d o1 o2 f s a e hf hs hd p1 pa p2 pe =
    let g : List ℕ = f ++ 32 ∷ [] in
    let lg : length g ≡ length f + 1 = length_push f 32 in
    let w : List ℕ = f ++ (32 ∷ (s ++ (10 ∷ []))) in
    let j : (g ++ s) ++ 10 ∷ [] ≡ w = append_assoc g s (10 ∷ []) ∙ append_assoc f (32 ∷ []) (s ++ 10 ∷ []) in
    let lw : length w ≡ length g + length s + 1 = ap length (sym j) ∙ length_push (g ++ s) 10 ∙ ap (λ (x : ℕ). x + 1) (length-append g s) in
    let m1 : set o1 a 32 ≡ laid d 0 g =
    ap (λ (x : List ℕ). set x a 32) p1 ∙ ap (λ (k : ℕ). set (laid d 0 f) k 32) pa ∙ laid_more d 0 f 32 (omega arith) in
    let k1 : a + 1 ≡ 0 + length g = omega arith in
    let m2 : o2 ≡ laid d 0 (g ++ s) =
    p2 ∙ ap (λ (x : List ℕ). laid x (a + 1) s) m1 ∙ ap (λ (k : ℕ). laid (laid d 0 g) k s) k1 ∙ laid_laid d 0 g s (omega arith) in
    let lgs : length (g ++ s) ≡ length g + length s = length-append g s in
    let k2 : e ≡ 0 + length (g ++ s) = omega arith in
    let m3 : set o2 e 10 ≡ laid d 0 ((g ++ s) ++ 10 ∷ []) =
    ap (λ (x : List ℕ). set x e 10) m2 ∙ ap (λ (k : ℕ). set (laid d 0 (g ++ s)) k 10) k2 ∙ laid_more d 0 (g ++ s) 10 (omega arith) in
    let z : 0 + length w ≡ length w = omega arith in
    (omega arith, m3 ∙ ap (laid d 0) j ∙ ap (λ (k : ℕ). w ++ drop k d) z)
