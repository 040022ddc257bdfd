-- From a form and its words to the call. Assumes nothing.
use Rattle.std.proofs.Common.{◌≡◌, ℕ, suc, ◌≤◌, true, List, [], ◌∷◌, length, drop, IfSome, Some, None, Ok, Err, Option, Result, sym, refl, ap, ◌∙◌, arith, Bor}
use Rattle.std.specs.Option.{ok_or}
use Rattle.std.proofs.lemmas.List.{length-map}
use Rattle.std.proofs.lemmas.Option.{MatchOption-at_some}
use Rattle.std.proofs.lemmas.Bool.{cond-true, leb-true, eqb-true}
use Rattle.script.specs.declared.fault.Expected.{Expected}
use Rattle.script.specs.declared.fault.Expected.TheVariants as expected
use Rattle.script.specs.declared.fault.Unread.TheVariants.{Fault, Memory}
use Rattle.script.specs.declared.forms.Form.{Form}
use Rattle.script.specs.declared.forms.Form.TheVariants.{Lattice, Clash, Open, Sheet}
use Rattle.script.specs.Calls.{form_of, call_of, with_form, with_words, with_numbers}
use Rattle.script.specs.Commands.{Meaning}
use Rattle.script.specs.Cuts.{texts}
use Rattle.script.specs.Faults.{LineError, Gives}
use Rattle.script.specs.Forms.{name_length, lattice_count, sheet_count, count_of, takes}
use Rattle.script.specs.Numbers.{number_of, also, numbers_of}

-- the form takes at least the numbers that it counts
count_within : (f : Form) (n : ℕ) → takes f n ≡ true → count_of f ≤ n
count_within (Lattice k) n e = leb-true (lattice_count k) n e
count_within (Clash r) n e = omega arith
count_within Open n e = omega arith
count_within (Sheet s) n e = omega (arith, eqb-true n (sheet_count s) e)

-- a number for each word
numbers_length : (ws : List (List ℕ)) → IfSome (numbers_of ws) (λ ns. length ns ≡ length ws)
numbers_length [] = refl
numbers_length (w ∷ ws) = both (number_of w) (numbers_of ws) (numbers_length ws)
  where
    both : (o : Option ℕ) (p : Option (List ℕ)) → IfSome p (λ ns. length ns ≡ length ws) → IfSome (also o p) (λ ns. length ns ≡ length (w ∷ ws))
    both None p h = tt
    both (Some n) None h = tt
    both (Some n) (Some ns) h = ap suc h

read_numbers : (f : Form) (o : Option (List ℕ)) (ns : List ℕ) → ok_or o (expected.Number f) ≡ Ok ns → o ≡ Some ns
read_numbers f None ns e = absurd (let z : ◌≡◌ {A = ℕ} 0 1 = cc in omega arith)
read_numbers f (Some ms) ns e = cc

unread_numbers : (f : Form) (o : Option (List ℕ)) (x : Expected) → ok_or o (expected.Number f) ≡ Err x → with_numbers f o ≡ Err x
unread_numbers f None x e = cc
unread_numbers f (Some ms) x e = absurd (let z : ◌≡◌ {A = ℕ} 0 1 = cc in omega arith)

-- f is the form that the words ws name, and vs are the words behind its name
pub record Begun (ws : List (List ℕ)) (f : Form) (vs : List (Bor (List ℕ))) : Type 0 where
  pub form : Ok f ≡ form_of ws
  pub rest : texts vs ≡ drop (name_length f) ws

module _ {ws : List (List ℕ)} {f : Form} {vs : List (Bor (List ℕ))} (begun : Begun ws f vs) where
  at_form : call_of ws ≡ with_words f (texts vs)
  at_form = ap (λ (o : Result Form Expected). with_form o ws) (sym begun.form) ∙ ap (with_words f) (sym begun.rest)

  same_length : length (texts vs) ≡ length vs
  same_length = length-map vs (λ w. w.now)

  module _ (counted : true ≡ takes f (length vs)) where
    right_count : call_of ws ≡ with_numbers f (numbers_of (texts vs))
    right_count = at_form ∙ cond-true _ _ _ (ap (takes f) same_length ∙ sym counted)

    pub no_numbers : {X Y : Type 0} (g : X → List ℕ) (h : Y → Meaning) (e : LineError) → Gives g (ok_or (numbers_of (texts vs)) (expected.Number f)) (Err e) → Gives h (call_of ws) (Err e)
    no_numbers g h (Fault x) e = right_count ∙ unread_numbers f _ x e
    no_numbers g h Memory e = tt

    module _ {ns : List ℕ} (numbers : ok_or (numbers_of (texts vs)) (expected.Number f) ≡ Ok ns) where
      pub enough : count_of f ≤ length ns
      enough =
          let k = MatchOption-at_some (Unit {0}) (λ (ms : List ℕ). length ms ≡ length (texts vs)) ns (read_numbers f _ ns numbers) (numbers_length (texts vs)) in
          omega (arith, count_within f (length vs) (sym counted), k ∙ same_length)
