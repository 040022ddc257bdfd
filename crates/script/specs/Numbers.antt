-- The numbers that words are.
--   number_of w     the number that the word w is: one decimal digit or more and nothing else, and below 2 ^ 32; none where
--                   it is no such number
--   numbers_of ws   the numbers that the words ws are; none where one of them is no number
-- Assumes nothing.
use Rattle.std.specs.Prelude.{ℕ, ◌+◌, ◌-◌, ◌*◌, ◌^◌, Bool, cond, ◌&&◌, List, [], ◌∷◌, Some, None, Option, nat_le, nat_lt}

abbrev pub is_digit : ℕ → Bool
is_digit b = nat_le 48 b && nat_le b 57

-- the value of digits that follow those of v
abbrev pub value_from : ℕ → List ℕ → Option ℕ
value_from v [] = Some v
value_from v (b ∷ bs) = cond (is_digit b) (value_from (v * 10 + (b - 48)) bs) None

abbrev pub limited : Option ℕ → Option ℕ
limited None = None
limited (Some n) = cond (nat_lt n (2 ^ 32)) (Some n) None

abbrev pub number_of : List ℕ → Option ℕ
number_of [] = None
number_of (b ∷ bs) = limited (value_from 0 (b ∷ bs))

-- a number in front of others, where all are there
abbrev pub also : Option ℕ → Option (List ℕ) → Option (List ℕ)
also None o = None
also (Some n) None = None
also (Some n) (Some ns) = Some (n ∷ ns)

abbrev pub numbers_of : List (List ℕ) → Option (List ℕ)
numbers_of [] = Some []
numbers_of (w ∷ ws) = also (number_of w) (numbers_of ws)
