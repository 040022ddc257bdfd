-- What a writer has written, one part after another.
use Rattle.std.proofs.Common.{◌≡◌, ℕ, ◌+◌, ◌≤◌, Bool, true, false, Option, Some, None, is_some, List, [], ◌∷◌, ◌++◌, length, sym, refl, ap, ◌∙◌, subst, arith}
use Rattle.std.proofs.lemmas.List.{length-append}
use Rattle.std.specs.Bool.{then_some}
use Rattle.std.specs.List.{flat_map}
use Rattle.record.specs.declared.writer.Writer.{Writer}
use Rattle.record.specs.Encode.{some, some_word, word_bytes, list_bytes}
use Rattle.record.specs.Puts.{Put}
use Rattle.record.proofs.Writing.{wrote_none, wrote_more}

pub put_none : (w : Writer) → Put [] w w
put_none w = record { same = refl; long = refl; wrote = wrote_none w.at w.out.now }

put_more : {a b : List ℕ} {v w x : Writer} → v.at + length (a ++ b) ≤ length v.out.now → Put a v w → Put b w x → Put (a ++ b) v x
put_more {a} {b} h p q = record {
  same = q.same ∙ p.same;
  long = q.long ∙ p.long;
  wrote = wrote_more a b _ _ _ _ _ _ h p.wrote q.wrote;
}

-- the bytes that are left have room, and once they are written all is, as the writer v₀ has it
pub record Left (bytes : List ℕ) (v : Writer) (all : List ℕ) (v₀ : Writer) : Type 0 where
  pub room : v.at + length bytes ≤ length v.out.now
  pub rest : (w : Writer) → Put bytes v w → Put all v₀ w

pub left_all : {all : List ℕ} (v : Writer) → v.at + length all ≤ length v.out.now → Left all v all v
left_all v h = record { room = h; rest = λ w p. p }

module _ {v : Writer} {all : List ℕ} {v₀ : Writer} where
  pub left_end : Left [] v all v₀ → Put all v₀ v
  left_end l = l.rest v (put_none v)

  pub left_as : {bytes same : List ℕ} → bytes ≡ same → Left bytes v all v₀ → Left same v all v₀
  left_as e l = subst (λ (x : List ℕ). Left x v all v₀) e l

  module _ (a b : List ℕ) (l : Left (a ++ b) v all v₀) where
    pub left_room : v.at + length a ≤ length v.out.now
    left_room = omega (arith, l.room, length-append a b)

    pub left_on : {w : Writer} → Put a v w → Left b w all v₀
    left_on p = record {
      room = omega (arith, l.room, length-append a b, p.wrote.end, p.long);
      rest = λ x q. l.rest x (put_more l.room p q);
    }

-- a list: its count, then its entries
module _ {E : Type 0} (f : ℕ × E → List ℕ) where
  pub list_some : (es : List (ℕ × E)) {count : ℕ} → count ≡ length es → (count ≡ 0 → ⊥) → list_bytes f es ≡ (count ∷ []) ++ flat_map f es
  list_some [] n h = absurd (h n)
  list_some (e ∷ es) n h = ap (λ k. k ∷ flat_map f (e ∷ es)) (sym n)

-- a word, and which fields are there
pub word_shown : (b : Bool) (v : ℕ) → some_word (then_some b v) ≡ word_bytes b v
word_shown true v = refl
word_shown false v = refl

pub some_bytes : (b : Bool) (v : ℕ) → some (word_bytes b v) ≡ b
some_bytes true v = refl
some_bytes false v = refl

pub some_is : (o : Option ℕ) → some (some_word o) ≡ is_some o
some_is None = refl
some_is (Some v) = refl

pub some_entries : {E : Type 0} (f : ℕ × E → List ℕ) (es : List (ℕ × E)) → some (list_bytes f es) ≡ some es
some_entries f [] = refl
some_entries f (e ∷ es) = refl
