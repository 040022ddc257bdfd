-- What the rule of one node gives: no plan beats its marks, and it rises with what it is given. Assumes nothing.
use Rattle.std.proofs.Common.{ℕ, ◌≤◌, Bool, true, false, Some, None, Option, arith}
use Rattle.std.proofs.lemmas.Bool.Decides.{nat_tests}
use Rattle.game.specs.Clash.{Fair}
use Rattle.game.specs.Rule.{figure_of, mark_of, mark_number, play_of, calls, puts}

-- a call that is missing is above every call, and a put that is missing below every put
abbrev pub HigherCall : Option ℕ → Option ℕ → Type 0
HigherCall r None = Unit {0}
HigherCall None (Some b) = ⊥
HigherCall (Some a) (Some b) = a ≤ b

abbrev pub HigherPut : Option ℕ → Option ℕ → Type 0
HigherPut None r = Unit {0}
HigherPut (Some a) None = ⊥
HigherPut (Some a) (Some b) = a ≤ b

module _ (σ : ℕ → ℕ → ℕ) (fair : Fair σ) where
  -- the holder's mark against any call
  pub held : (L U : Option ℕ) (p : Bool) (C V : ℕ) → C ≤ V → figure_of σ L U C ≤ play_of σ L U p (puts (mark_number (mark_of L U C))) V
  held None None p C V h = h
  held None (Some U) true C V h = grind (arith, nat_tests)
  held None (Some U) false C V h = grind (arith, nat_tests)
  held (Some L) None p C V h = grind (arith, nat_tests)
  held (Some L) (Some U) true C V h = let lo = fair.at_least L U in let hi = fair.at_most L U in grind (arith, nat_tests)
  held (Some L) (Some U) false C V h = let lo = fair.at_least L U in let hi = fair.at_most L U in grind (arith, nat_tests)

  -- the issuer's mark against any put
  pub kept : (L U : Option ℕ) (q : Bool) (C V : ℕ) → V ≤ C → play_of σ L U (calls (mark_number (mark_of L U C))) q V ≤ figure_of σ L U C
  kept None None q C V h = h
  kept None (Some U) q C V h = grind (arith, nat_tests)
  kept (Some L) None true C V h = grind (arith, nat_tests)
  kept (Some L) None false C V h = grind (arith, nat_tests)
  kept (Some L) (Some U) true C V h = let lo = fair.at_least L U in let hi = fair.at_most L U in grind (arith, nat_tests)
  kept (Some L) (Some U) false C V h = let lo = fair.at_least L U in let hi = fair.at_most L U in grind (arith, nat_tests)

  pub rises : (L L' U U' : Option ℕ) (C C' : ℕ) → HigherPut L L' → HigherCall U U' → C ≤ C' → figure_of σ L U C ≤ figure_of σ L' U' C'
  rises None None None None C C' l u c = c
  rises None None (Some U) None C C' l u c = grind (arith, nat_tests)
  rises None None None (Some U') C C' l u c = absurd u
  rises None None (Some U) (Some U') C C' l u c = grind (arith, nat_tests)
  rises None (Some L') None None C C' l u c = grind (arith, nat_tests)
  rises None (Some L') (Some U) None C C' l u c = grind (arith, nat_tests)
  rises None (Some L') None (Some U') C C' l u c = absurd u
  rises None (Some L') (Some U) (Some U') C C' l u c = let lo = fair.at_least L' U' in grind (arith, nat_tests)
  rises (Some L) None U U' C C' l u c = absurd l
  rises (Some L) (Some L') None None C C' l u c = grind (arith, nat_tests)
  rises (Some L) (Some L') (Some U) None C C' l u c = let hi = fair.at_most L U in grind (arith, nat_tests)
  rises (Some L) (Some L') None (Some U') C C' l u c = absurd u
  rises (Some L) (Some L') (Some U) (Some U') C C' l u c =
      let hi = fair.at_most L U in
      let lo = fair.at_least L' U' in
      let up = fair.rises L L' U U' l u in
      grind (arith, nat_tests)

  -- a figure lies within what its amounts and the value of going on lie within
  abbrev pub Within : ℕ → Option ℕ → Type 0
  Within most None = Unit {0}
  Within most (Some a) = a ≤ most

  pub bounded : (most : ℕ) (L U : Option ℕ) (C : ℕ) → Within most L → Within most U → C ≤ most → figure_of σ L U C ≤ most
  bounded most None None C l u c = c
  bounded most None (Some U) C l u c = grind (arith, nat_tests)
  bounded most (Some L) None C l u c = grind (arith, nat_tests)
  bounded most (Some L) (Some U) C l u c = let hi = fair.at_most L U in grind (arith, nat_tests)
