-- Terms and spread are what their record means, and a record that means them is theirs.
use Rattle.std.proofs.Common.{◌≡◌, ℕ, ◌+◌, ◌*◌, ◌/◌, ◌%◌, ◌<◌, ◌≤◌, Bool, true, false, cond, eqb, ltb, leb, List, [], ◌∷◌, ◌++◌, length, get_or, take, drop, replicate, Some, None, Ok, Err, Option, Result, sym, refl, ap, ◌∙◌, arith}
use Rattle.std.proofs.lemmas.List.{append-nil, length-drop, drop_all}
use Rattle.std.proofs.lemmas.Bool.{eqb-true, ltb-false, leb-false, lt-leb, le-ltb, not-true, not-false}
use Rattle.std.proofs.lemmas.Bool.Decides.{nat_tests}
use Rattle.std.proofs.lemmas.Nat.{shr-shr}
use Rattle.game.specs.declared.terms.Right.{Right}
use Rattle.game.specs.declared.terms.Terms.{Terms}
use Rattle.game.specs.declared.terms.Kind.TheVariants.{Call, Put}
use Rattle.sheet.specs.declared.fault.SheetFault.{SheetFault}
use Rattle.sheet.specs.Edits.{amount_fault, spread_fault, coupon_fault}
use Rattle.sheet.specs.Admits.{right_entry_fault, Admitted}
use Rattle.record.specs.declared.fault.RecordFault.{RecordFault}
use Rattle.record.specs.declared.fault.RecordFault.TheVariants.{Form, Extra}
use Rattle.record.specs.Decode.{word, then, checked, map_form, word_form, redemption_of, spread_of, part_at, redemption_at, spread_at, coupons_at, rights_at, end_at, odd, terms_of, decode}
use Rattle.record.specs.Encode.{bytes4, coupon_bytes, right_bytes, nonzero, coupons_in, rights_in, some, list_bytes, word_bytes, bit, map_byte, redeems, spreads, encode}
use Rattle.record.specs.Enters.{coupon_low, right_low}
use Rattle.record.proofs.Listing.{then_ok, past, part_of, part_back, bytes4_word, word_says, Bytes, word_read, word_back}
use Rattle.record.proofs.Turning.{cond_ok, checked_ok, nonzero_is, coupons_listed, rights_listed, table_read, table_back}

-- a field of four bytes
module _ (fault : ℕ → Option SheetFault) (absent place v : ℕ) where
  word_from : v < 4294967296 → fault v ≡ None → eqb v absent ≡ false → checked fault (word_form absent) place (bytes4 v) ≡ Ok v
  word_from h z n = ap (λ x. then (cond (eqb x absent) (Err (Form place)) (Ok x)) (λ y. checked fault (λ _ _. Ok y) place [])) (bytes4_word v h) ∙ rw (n, z)

  word_to : (bs : List ℕ) → Bytes bs → length bs ≡ 4 → checked fault (word_form absent) place bs ≡ Ok v → (bytes4 v ≡ bs) × (eqb v absent ≡ false)
  word_to bs h l e =
      let w = checked_ok fault (word_form absent) place bs v e in
      let c = cond_ok (eqb (word 0 bs) absent) (Form place) (Ok (word 0 bs)) v w.0 in
      let same : word 0 bs ≡ v = cc c.1 in
      (ap bytes4 (sym same) ∙ word_says bs h l, ap (λ x. eqb x absent) (sym same) ∙ c.0)

amount_low : (v : ℕ) → amount_fault 0 v ≡ None → v < 4294967296
amount_low v e = grind (arith, nat_tests)

spread_low : (v : ℕ) → spread_fault v ≡ None → v < 4294967296
spread_low v e = grind (arith, nat_tests)

-- the bits of a map
bit_low : (b : Bool) → bit b ≤ 1
bit_low true = omega arith
bit_low false = omega arith

bit_odd : (b : Bool) (n rest : ℕ) → n ≡ bit b + 2 * rest → odd n ≡ b
bit_odd true n rest e = let z : n % 2 ≡ 1 = omega arith in rw z
bit_odd false n rest e = let z : n % 2 ≡ 0 = omega arith in rw z

odd_bit : (m : ℕ) → bit (odd m) ≡ m % 2
odd_bit m = grind (arith, nat_tests)

map_back : (m : ℕ) → m < 32 → map_byte (odd m) (odd (m / 2)) (odd (m / 4)) (odd (m / 8)) (odd (m / 16)) ≡ m
map_back m h =
    let e4 : bit (odd (m / 16)) ≡ m / 16 = omega (arith, odd_bit (m / 16)) in
    let e3 : bit (odd (m / 8)) + 2 * (m / 16) ≡ m / 8 = omega (arith, shr-shr m 3 1, odd_bit (m / 8)) in
    let e2 : bit (odd (m / 4)) + 2 * (m / 8) ≡ m / 4 = omega (arith, shr-shr m 2 1, odd_bit (m / 4)) in
    let e1 : bit (odd (m / 2)) + 2 * (m / 4) ≡ m / 2 = omega (arith, shr-shr m 1 1, odd_bit (m / 2)) in
    let e0 : bit (odd m) + 2 * (m / 2) ≡ m = omega (arith, odd_bit m) in
    rw (e4, e3, e2, e1, e0)

map_low : (b0 b1 b2 b3 b4 : Bool) → map_byte b0 b1 b2 b3 b4 < 32
map_low b0 b1 b2 b3 b4 = omega (arith, bit_low b0, bit_low b1, bit_low b2, bit_low b3, bit_low b4)

bits_are : (b0 b1 b2 b3 b4 : Bool) (m : ℕ) → m ≡ map_byte b0 b1 b2 b3 b4 → (odd m ≡ b0) × (odd (m / 2) ≡ b1) × (odd (m / 4) ≡ b2) × (odd (m / 8) ≡ b3) × (odd (m / 16) ≡ b4)
bits_are b0 b1 b2 b3 b4 m e = (
  bit_odd b0 m (bit b1 + 2 * (bit b2 + 2 * (bit b3 + 2 * bit b4))) e,
  bit_odd b1 (m / 2) (bit b2 + 2 * (bit b3 + 2 * bit b4)) (omega (arith, bit_low b0)),
  bit_odd b2 (m / 4) (bit b3 + 2 * bit b4) (omega (arith, bit_low b0, bit_low b1)),
  bit_odd b3 (m / 8) (bit b4) (omega (arith, bit_low b0, bit_low b1, bit_low b2)),
  bit_odd b4 (m / 16) 0 (omega (arith, bit_low b0, bit_low b1, bit_low b2, bit_low b3)),
)

-- the fields read one after another
decoded : (n : ℕ) (src : List ℕ) {m a1 r a2 s a3 : ℕ} {c : List ℕ} {a4 : ℕ} {k : List (Option Right)} {a5 : ℕ} {p : List (Option Right)} {a6 : ℕ} → part_at 1 map_form src 0 ≡ Ok (m, a1) → redemption_at 1000000 (odd m) src a1 ≡ Ok (r, a2) → spread_at 0 (odd (m / 2)) src a2 ≡ Ok (s, a3) → coupons_at n (replicate 65 0) (odd (m / 4)) src a3 ≡ Ok (c, a4) → rights_at n (replicate 64 None) (odd (m / 8)) src a4 ≡ Ok (k, a5) → rights_at n (replicate 64 None) (odd (m / 16)) src a5 ≡ Ok (p, a6) → end_at src a6 ≡ Ok tt → decode n src ≡ Ok (terms_of r c k p, s)
unfolding decode
decoded n src e1 e2 e3 e4 e5 e6 e7 = rw (e1, e2, e3, e4, e5, e6, e7)

at_end : (src : List ℕ) (at : ℕ) → drop at src ≡ [] → end_at src at ≡ Ok tt
at_end src at e = let long = ap length e in rw (le-ltb at (length src) (omega (arith, long, length-drop at src)))

module _ (n : ℕ) (b : Terms) (s : ℕ) (ok : Admitted n b s) (coupons : length b.coupons ≡ 65) (calls : length b.calls ≡ 64) (puts : length b.puts ≡ 64) (src : List ℕ) where
  abbrev Shape : Type 0
  Shape = src ≡ map_byte (redeems b.redemption) (spreads s) (some (coupons_in b.coupons)) (some (rights_in b.calls)) (some (rights_in b.puts)) ∷ (word_bytes (redeems b.redemption) b.redemption ++ (word_bytes (spreads s) s ++ (list_bytes coupon_bytes (coupons_in b.coupons) ++ (list_bytes right_bytes (rights_in b.calls) ++ list_bytes right_bytes (rights_in b.puts)))))

  coupon_stands : (t e : ℕ) → nonzero (get_or b.coupons t 0) ≡ Some e → coupon_fault n t e ≡ None
  coupon_stands t e h =
      let w = nonzero_is (get_or b.coupons t 0) e h in
      let z : eqb (get_or b.coupons t 0) 0 ≡ false = ap (λ a. eqb a 0) (sym w.1) ∙ w.0 in
      ap (coupon_fault n t) w.1 ∙ ap (λ c. cond c None (coupon_fault n t (get_or b.coupons t 0))) (sym z) ∙ ok.coupons t

  forward : Shape → decode n src ≡ Ok (b, s)
  forward d0 =
      let b0 : Bool = redeems b.redemption in
      let b1 : Bool = spreads s in
      let b2 : Bool = some (coupons_in b.coupons) in
      let b3 : Bool = some (rights_in b.calls) in
      let b4 : Bool = some (rights_in b.puts) in
      let m : ℕ = map_byte b0 b1 b2 b3 b4 in
      let bits = bits_are b0 b1 b2 b3 b4 m refl in
      let a2 : ℕ = 1 + length (word_bytes b0 b.redemption) in
      let a3 : ℕ = a2 + length (word_bytes b1 s) in
      let a4 : ℕ = a3 + length (list_bytes coupon_bytes (coupons_in b.coupons)) in
      let a5 : ℕ = a4 + length (list_bytes right_bytes (rights_in b.calls)) in
      let d1 = past src (m ∷ []) _ 0 d0 in
      let d2 = past src (word_bytes b0 b.redemption) _ 1 d1 in
      let d3 = past src (word_bytes b1 s) _ _ d2 in
      let d4 = past src (list_bytes coupon_bytes (coupons_in b.coupons)) _ _ d3 in
      let d5 = past src (list_bytes right_bytes (rights_in b.calls)) _ _ d4 ∙ sym (append-nil _) in
      let d6 = past src (list_bytes right_bytes (rights_in b.puts)) [] _ d5 in
      decoded n src
      (part_of 1 map_form src 0 (m ∷ []) _ m (omega arith) d0 refl (rw (lt-leb 32 m (map_low b0 b1 b2 b3 b4))))
      (ap (λ x. redemption_at 1000000 x src 1) bits.0 ∙ word_read redemption_of 1000000 src b0 b.redemption 1 _ d1 (λ z. eqb-true _ _ (not-false _ z)) (λ z. word_from (amount_fault 0) 1000000 1 b.redemption (amount_low _ ok.redemption) ok.redemption (not-true _ z)))
      (ap (λ x. spread_at 0 x src a2) bits.1 ∙ word_read spread_of 0 src b1 s _ _ d2 (λ z. eqb-true _ _ (not-false _ z)) (λ z. word_from spread_fault 0 _ s (spread_low _ ok.spread) ok.spread (not-true _ z)))
      (ap (λ x. coupons_at n (replicate 65 0) x src a3) bits.2 ∙ table_read (coupons_listed n) src b.coupons _ _ coupons coupon_stands d3)
      (ap (λ x. rights_at n (replicate 64 None) x src a4) bits.3 ∙ table_read (rights_listed n) src b.calls _ _ calls (λ t e h. ap (right_entry_fault n t) (sym h) ∙ ok.rights Call t) d4)
      (ap (λ x. rights_at n (replicate 64 None) x src a5) bits.4 ∙ table_read (rights_listed n) src b.puts _ _ puts (λ t e h. ap (right_entry_fault n t) (sym h) ∙ ok.rights Put t) d5)
      (at_end src _ d6)

-- the record of accepted terms means these terms
pub decode_encode : (n : ℕ) (b : Terms) (s : ℕ) → Admitted n b s → length b.coupons ≡ 65 → length b.calls ≡ 64 → length b.puts ≡ 64 → decode n (encode b s) ≡ Ok (b, s)
unfolding encode
decode_encode n b s ok c k p = forward n b s ok c k p (encode b s) refl

map_said : (bs : List ℕ) (m : ℕ) → length bs ≡ 1 → map_form 0 bs ≡ Ok m → (m < 32) × (bs ≡ m ∷ [])
map_said [] m l e = absurd (omega arith)
map_said (b ∷ d ∷ bs) m l e = absurd (omega arith)
map_said (b ∷ []) m l e =
    let c = cond_ok (leb 32 b) (Form 0) (Ok b) m e in
    let s : b ≡ m = cc c.1 in
    (omega (arith, leb-false 32 b c.0), ap (λ v. v ∷ []) s)

end_said : (src : List ℕ) (at : ℕ) (u : Unit {0}) → end_at src at ≡ Ok u → drop at src ≡ []
end_said src at u e = drop_all at src (ltb-false at (length src) (cond_ok (ltb at (length src)) (Extra at) (Ok tt) u e).0)

then_by : {X Y : Type 0} {R : Type 0} (q : Result X RecordFault) (f : X → Result Y RecordFault) (y : Y) → then q f ≡ Ok y → ((x : X) → q ≡ Ok x → f x ≡ Ok y → R) → R
then_by q f y e k = let w = then_ok q f y e in k w.0 w.1 w.2

module _ (n : ℕ) (small : n ≤ 64) (bs : List ℕ) (bytes : Bytes bs) where
  coupons_back : (present : Bool) (at : ℕ) (c : List ℕ) (next : ℕ) → coupons_at n (replicate 65 0) present bs at ≡ Ok (c, next) → (some (coupons_in c) ≡ present) × (drop at bs ≡ list_bytes coupon_bytes (coupons_in c) ++ drop next bs)
  coupons_back = table_back (coupons_listed n) bs bytes (λ e z. let h = coupon_low n e.0 e.1 z in omega arith)

  rights_back : (present : Bool) (at : ℕ) (c : List (Option Right)) (next : ℕ) → rights_at n (replicate 64 None) present bs at ≡ Ok (c, next) → (some (rights_in c) ≡ present) × (drop at bs ≡ list_bytes right_bytes (rights_in c) ++ drop next bs)
  rights_back = table_back (rights_listed n) bs bytes (λ e z. let h = right_low n e.0 e.1.price e.1.notice z in omega arith)

  -- what was read of a record is what the terms are written as
  encoded : (m a1 r a2 s a3 : ℕ) (c : List ℕ) (a4 : ℕ) (k : List (Option Right)) (a5 : ℕ) (p : List (Option Right)) (a6 : ℕ) (u : Unit {0}) → part_at 1 map_form bs 0 ≡ Ok (m, a1) → redemption_at 1000000 (odd m) bs a1 ≡ Ok (r, a2) → spread_at 0 (odd (m / 2)) bs a2 ≡ Ok (s, a3) → coupons_at n (replicate 65 0) (odd (m / 4)) bs a3 ≡ Ok (c, a4) → rights_at n (replicate 64 None) (odd (m / 8)) bs a4 ≡ Ok (k, a5) → rights_at n (replicate 64 None) (odd (m / 16)) bs a5 ≡ Ok (p, a6) → end_at bs a6 ≡ Ok u → encode (terms_of r c k p) s ≡ bs
  unfolding encode
  encoded m a1 r a2 s a3 c a4 k a5 p a6 u e1 e2 e3 e4 e5 e6 e7 =
      let t1 = part_back 1 map_form bs 0 m a1 e1 in
      let m1 = map_said (take 1 (drop 0 bs)) m t1.long t1.said in
      let w2 = word_back redemption_of 1000000 bs (odd m) r a1 a2 bytes (word_to (amount_fault 0) 1000000 a1 r) refl e2 in
      let w3 = word_back spread_of 0 bs (odd (m / 2)) s a2 a3 bytes (word_to spread_fault 0 a2 s) refl e3 in
      let l4 = coupons_back (odd (m / 4)) a3 c a4 e4 in
      let l5 = rights_back (odd (m / 8)) a4 k a5 e5 in
      let l6 = rights_back (odd (m / 16)) a5 p a6 e6 in
      let d6 = l6.1 ∙ ap (λ l. list_bytes right_bytes (rights_in p) ++ l) (end_said bs a6 u e7) ∙ append-nil _ in
      let d5 = l5.1 ∙ ap (λ l. list_bytes right_bytes (rights_in k) ++ l) d6 in
      let d4 = l4.1 ∙ ap (λ l. list_bytes coupon_bytes (coupons_in c) ++ l) d5 in
      let d3 = w3.0 ∙ ap (λ l. word_bytes (odd (m / 2)) s ++ l) d4 in
      let d2 = w2.0 ∙ ap (λ l. word_bytes (odd m) r ++ l) d3 in
      let d1 = t1.split ∙ (λ i. m1.1 i ++ d2 i) in
      let rest : List ℕ = list_bytes coupon_bytes (coupons_in c) ++ (list_bytes right_bytes (rights_in k) ++ list_bytes right_bytes (rights_in p)) in
      (λ i. map_byte (w2.1 i) (w3.1 i) (l4.0 i) (l5.0 i) (l6.0 i) ∷ (word_bytes (w2.1 i) r ++ (word_bytes (w3.1 i) s ++ rest)))
      ∙ ap (λ x. x ∷ (word_bytes (odd m) r ++ (word_bytes (odd (m / 2)) s ++ rest))) (map_back m m1.0)
      ∙ sym d1

  -- a record that means terms and a spread is their record
  pub encode_decode : (t : Terms × ℕ) → decode n bs ≡ Ok t → encode t.0 t.1 ≡ bs
  unfolding decode
  encode_decode t e =
      then_by _ _ t e (λ m e1 r1.
      then_by _ _ t r1 (λ r e2 r2.
      then_by _ _ t r2 (λ s e3 r3.
      then_by _ _ t r3 (λ c e4 r4.
      then_by _ _ t r4 (λ k e5 r5.
      then_by _ _ t r5 (λ p e6 r6.
      then_by _ _ t r6 (λ u e7 r7.
      let same : (terms_of r.0 c.0 k.0 p.0, s.0) ≡ t = cc in
      ap (λ x. encode x.0 x.1) (sym same) ∙ encoded m.0 m.1 r.0 r.1 s.0 s.1 c.0 c.1 k.0 k.1 p.0 p.1 u e1 e2 e3 e4 e5 e6 e7)))))))
