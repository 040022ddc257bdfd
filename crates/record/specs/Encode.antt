-- The record of terms b and a spread s: the fields that differ from what an absent field means, the lists by rising step.
--   bytes4                     a number as four bytes, the highest first
--   entries_of                 what a table holds, with its step: held says of each cell what it holds
--   coupons_in, rights_in      the entries of the two kinds of tables
--   coupon_bytes, right_bytes  an entry
--   list_bytes, word_bytes     a field
--   some_word                  a word that may be absent
--   map_byte                   the map of the fields that are there
--   encode                     the whole record
-- Assumes nothing.
use Rattle.std.specs.Prelude.{ℕ, ◌+◌, ◌*◌, ◌/◌, ◌%◌, Bool, true, false, cond, not, List, [], ◌∷◌, ◌++◌, length, Some, None, Option, ◌==◌}
use Rattle.std.specs.List.{flat_map}
use Rattle.game.specs.declared.terms.Right.{Right}
use Rattle.game.specs.declared.terms.Terms.{Terms}

abbrev pub bytes4 : ℕ → List ℕ
bytes4 v = (v / 16777216 % 256) ∷ (v / 65536 % 256) ∷ (v / 256 % 256) ∷ (v % 256) ∷ []

abbrev pub coupon_bytes : ℕ × ℕ → List ℕ
coupon_bytes e = e.0 ∷ bytes4 e.1

abbrev pub right_bytes : ℕ × Right → List ℕ
right_bytes e = e.0 ∷ e.1.notice ∷ bytes4 e.1.price

abbrev pub entered : {E : Type 0} → ℕ → Option E → List (ℕ × E) → List (ℕ × E)
entered t None es = es
entered t (Some e) es = (t, e) ∷ es

-- the first cell of the table is that of step t
unfoldable pub entries_of : {E A : Type 0} → (A → Option E) → ℕ → List A → List (ℕ × E)
entries_of held t [] = []
entries_of held t (a ∷ rest) = entered t (held a) (entries_of held (t + 1) rest)

abbrev pub nonzero : ℕ → Option ℕ
nonzero a = cond (a == 0) None (Some a)

abbrev pub coupons_in : List ℕ → List (ℕ × ℕ)
coupons_in = entries_of nonzero 0

abbrev pub rights_in : List (Option Right) → List (ℕ × Right)
rights_in = entries_of (λ r. r) 0

abbrev pub some : {X : Type 0} → List X → Bool
some [] = false
some (x ∷ xs) = true

-- a list's field: its count and its entries
abbrev pub list_bytes : {E : Type 0} → (ℕ × E → List ℕ) → List (ℕ × E) → List ℕ
list_bytes f es = cond (some es) (length es ∷ flat_map f es) []

abbrev pub some_word : Option ℕ → List ℕ
some_word None = []
some_word (Some v) = bytes4 v

abbrev pub word_bytes : Bool → ℕ → List ℕ
word_bytes present v = cond present (bytes4 v) []

abbrev pub bit : Bool → ℕ
bit b = cond b 1 0

abbrev pub map_byte : Bool → Bool → Bool → Bool → Bool → ℕ
map_byte b0 b1 b2 b3 b4 = bit b0 + 2 * (bit b1 + 2 * (bit b2 + 2 * (bit b3 + 2 * bit b4)))

-- whether a redemption and a spread are written
abbrev pub redeems : ℕ → Bool
redeems r = not (r == 1000000)

abbrev pub spreads : ℕ → Bool
spreads s = not (s == 0)

unfoldable pub encode : Terms → ℕ → List ℕ
encode b s =
    map_byte (redeems b.redemption) (spreads s) (some (coupons_in b.coupons)) (some (rights_in b.calls)) (some (rights_in b.puts))
    ∷ (word_bytes (redeems b.redemption) b.redemption
    ++ (word_bytes (spreads s) s
    ++ (list_bytes coupon_bytes (coupons_in b.coupons)
    ++ (list_bytes right_bytes (rights_in b.calls)
    ++ list_bytes right_bytes (rights_in b.puts)))))
