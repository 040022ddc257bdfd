-- One call more in a run, and what its answers say of struck prices. Assumes nothing.
use Rattle.std.proofs.Common.{◌≡◌, ℕ, zero, suc, ◌+◌, ◌<◌, ◌≤◌, List, [], ◌∷◌, ◌++◌, map, length, get_or, take, set, Some, None, Option, Result, sym, refl, ap, ◌∙◌, subst, arith}
use Rattle.std.proofs.Math.ListN.{get_or-map}
use Rattle.std.proofs.lemmas.List.{take_more, take_more_set, get_or-take, map-append}
use Rattle.rates.specs.Model.{Model, Lawful}
use Rattle.rates.specs.Refusals.{Told, accepted, refused, seen}
use Rattle.sheet.specs.declared.fault.SheetFault.{SheetFault}
use Rattle.sheet.specs.declared.price.Struck.{Struck}
use Rattle.sheet.specs.declared.state.State.{State}
use Rattle.sheet.specs.Faults.{answer, unless}
use Rattle.sheet.specs.Prices.{strike_fault, struck}
use Rattle.sheet.specs.Admits.{Admitted}
use Rattle.sheet.specs.Shared.{Standing}
use Rattle.sheet.proofs.Worths.{struck_root}
use Rattle.session.specs.declared.call.Call.{Call}
use Rattle.session.specs.declared.call.Call.TheVariants.{Edit, Load, Save, Back, Read, Cost, Fit, Strike}
use Rattle.session.specs.declared.call.Fault.{Fault}
use Rattle.session.specs.declared.call.Reply.{Reply}
use Rattle.session.specs.declared.call.Reply.TheVariants as reply
use Rattle.session.specs.Answers.{heard, heard_in}
use Rattle.session.specs.Runs.{Shared, answered, after, run, answers}
use Rattle.session.specs.Promises.{StrikesAreRoots}

-- a call whose reply is another is not told a price
not_struck : {X : Type 0} (f : X → Reply) (p : Struck) → ((x : X) → f x ≡ reply.Struck p → ⊥) → (t : Told X) → seen f t ≡ accepted (reply.Struck p) → ⊥
not_struck f p other (accepted x) e = other x (cc)
not_struck f p other (refused r) e = cc

price_struck : (o : Option SheetFault) (q p : Struck) → seen reply.Struck (answer o q) ≡ accepted (reply.Struck p) → (o ≡ None) × (p ≡ q)
price_struck None q p e = (refl, cc)
price_struck (Some f) q p e = absurd cc

module _ (m : Model) (σ : ℕ → ℕ → ℕ) where
  abbrev pub Stands : Shared → Type 0
  Stands z = Standing m σ z.state z.values z.marks

  abbrev pub Accepted : Shared → Type 0
  Accepted z = Admitted m.steps z.state.terms z.state.spread

  -- only a strike answers a price, and only one that is not refused
  struck_answer : (c : Call) (z : Shared) (p : Struck) → answered m σ c z ≡ accepted (reply.Struck p) → (strike_fault m z.state z.values ≡ None) × (p ≡ struck m z.state z.values)
  struck_answer (Edit e) z p h = absurd (not_struck reply.First p (λ x q. cc) _ h)
  struck_answer (Load b) z p h = absurd (not_struck reply.First p (λ x q. cc) _ h)
  struck_answer (Save n) z p h = absurd (not_struck (reply.Saved z.used) p (λ x q. cc) _ h)
  struck_answer (Back n) z p h = absurd (not_struck reply.First p (λ x q. cc) _ h)
  struck_answer (Read t j) z p h = absurd (not_struck reply.Read p (λ x q. cc) _ h)
  struck_answer Cost z p h = absurd cc
  struck_answer (Fit want) z p h = absurd (not_struck reply.Fitted p (λ x q. cc) _ h)
  struck_answer Strike z p h = price_struck (strike_fault m z.state z.values) (struck m z.state z.values) p h

  run_push : (xs : List Call) (c : Call) (z : Shared) → run m σ (xs ++ c ∷ []) z ≡ after m σ c (run m σ xs z)
  run_push [] c z = refl
  run_push (x ∷ xs) c z = run_push xs c (after m σ x z)

  answers_push : (xs : List Call) (c : Call) (z : Shared) → answers m σ (xs ++ c ∷ []) z ≡ answers m σ xs z ++ answered m σ c (run m σ xs z) ∷ []
  answers_push [] c z = refl
  answers_push (x ∷ xs) c z = ap (λ l. answered m σ x z ∷ l) (answers_push xs c (after m σ x z))

  pub run_more : (xs : List Call) (i : ℕ) (d : Call) (z : Shared) → i < length xs → run m σ (take (i + 1) xs) z ≡ after m σ (get_or xs i d) (run m σ (take i xs) z)
  run_more xs i d z h = ap (λ l. run m σ l z) (take_more xs i d h) ∙ run_push (take i xs) (get_or xs i d) z

  pub answers_more : (xs : List Call) (i : ℕ) (d : Call) (z : Shared) → i < length xs → answers m σ (take (i + 1) xs) z ≡ answers m σ (take i xs) z ++ answered m σ (get_or xs i d) (run m σ (take i xs) z) ∷ []
  answers_more xs i d z h = ap (λ l. answers m σ l z) (take_more xs i d h) ∙ answers_push (take i xs) (get_or xs i d) z

  -- an answer more
  pub heard_more : (xs : List Call) (i : ℕ) (d : Call) (z : Shared) (given : List (Option (Result Reply Fault))) (r : Result Reply Fault) → i < length xs → i < length given →
      map heard_in (take i given) ≡ map Some (answers m σ (take i xs) z) → heard r ≡ answered m σ (get_or xs i d) (run m σ (take i xs) z) →
      map heard_in (take (i + 1) (set given i (Some r))) ≡ map Some (answers m σ (take (i + 1) xs) z)
  heard_more xs i d z given r l g before now =
      ap (map heard_in) (take_more_set given i (Some r) g)
      ∙ map-append heard_in (take i given) (Some r ∷ [])
      ∙ (λ k. before k ++ Some (now k) ∷ [])
      ∙ sym (map-append Some (answers m σ (take i xs) z) (answered m σ (get_or xs i d) (run m σ (take i xs) z) ∷ []))
      ∙ ap (map Some) (sym (answers_more xs i d z l))

  -- the answer at a place is that of its call
  answer_at : (xs : List Call) (i : ℕ) (d : Call) (z : Shared) → i < length xs → get_or (map Some (answers m σ xs z)) i None ≡ Some (answered m σ (get_or xs i d) (run m σ (take i xs) z))
  answer_at [] i d z h = absurd (omega arith)
  answer_at (x ∷ xs) zero d z h = refl
  answer_at (x ∷ xs) (suc i) d z h = answer_at xs i d (after m σ x z) (omega arith)

  -- what was struck on a state that stands
  pub strikes : Lawful m → (xs : List Call) (z : Shared) (given : List (Option (Result Reply Fault))) →
      map heard_in (take (length xs) given) ≡ map Some (answers m σ xs z) → ((k : ℕ) → k ≤ length xs → Stands (run m σ (take k xs) z)) → StrikesAreRoots m σ xs z given
  strikes laws xs z given heard_all stood i p l is =
      let y = run m σ (take i xs) z in
      let here : heard_in (get_or given i None) ≡ Some (answered m σ (get_or xs i Cost) y) =
      ap heard_in (sym (get_or-take (length xs) given i None l)) ∙ sym (get_or-map heard_in (take (length xs) given) i None) ∙ ap (λ l. get_or l i None) heard_all ∙ answer_at xs i Cost z l in
      let said : answered m σ (get_or xs i Cost) y ≡ accepted (reply.Struck p) = let e : Some (answered m σ (get_or xs i Cost) y) ≡ Some (accepted (reply.Struck p)) = sym here ∙ ap heard_in is in cc in
      let q = struck_answer (get_or xs i Cost) y p said in
      let figure = struck_root laws σ y.state y.values y.marks (stood i (omega arith)) q.0 in
      q.1 ∙ ap (λ f. record { figure = f; spread = y.state.spread }) figure

-- a state with the same terms and spread, or the one before
pub left_admitted : (n w : ℕ) (o : Option SheetFault) (s : State) {s' : State} → s' ≡ unless o (record { terms = s.terms; spread = s.spread; first = w }) s → Admitted n s.terms s.spread → Admitted n s'.terms s'.spread
left_admitted n w None s e a = subst (λ (x : State). Admitted n x.terms x.spread) (sym e) a
left_admitted n w (Some f) s e a = subst (λ (x : State). Admitted n x.terms x.spread) (sym e) a
