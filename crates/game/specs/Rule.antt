-- The rule of one node, given the amounts of the rights that its step holds.
--   figure_of     its figure: L is the put amount, U the call amount, C the value of going on
--   mark_of       who exercises there
--   play_of       its played value, where p says that the call plan has the node, q that the put plan has it
--   mark_number   the byte that stands for a mark
--   MarkRead      a byte is read as the mark that it stands for, or answered where it stands for none
--   calls, puts   the bytes that are the issuer's marks, and the holder's
-- Assumes nothing.
use Rattle.std.specs.Prelude.{◌≡◌, ℕ, ◌<◌, Bool, cond, ◌||◌, Some, None, Option, Result, MatchResult, ◌==◌, nat_lt}
use Rattle.game.specs.declared.mark.Mark.{Mark}
use Rattle.game.specs.declared.mark.NoMark.{NoMark}
use Rattle.game.specs.declared.mark.Mark.TheVariants.{Neither, Call, Put, Both}

abbrev pub figure_of : (ℕ → ℕ → ℕ) → Option ℕ → Option ℕ → ℕ → ℕ
figure_of settled None None C = C
figure_of settled None (Some U) C = cond (nat_lt U C) U C
figure_of settled (Some L) None C = cond (nat_lt C L) L C
figure_of settled (Some L) (Some U) C = cond (nat_lt U L) (settled L U) (cond (nat_lt C L) L (cond (nat_lt U C) U C))

abbrev pub mark_of : Option ℕ → Option ℕ → ℕ → Mark
mark_of None None C = Neither
mark_of None (Some U) C = cond (nat_lt U C) Call Neither
mark_of (Some L) None C = cond (nat_lt C L) Put Neither
mark_of (Some L) (Some U) C = cond (nat_lt U L) Both (cond (nat_lt C L) Put (cond (nat_lt U C) Call Neither))

abbrev pub play_of : (ℕ → ℕ → ℕ) → Option ℕ → Option ℕ → Bool → Bool → ℕ → ℕ
play_of settled None None p q V = V
play_of settled None (Some U) p q V = cond p U V
play_of settled (Some L) None p q V = cond q L V
play_of settled (Some L) (Some U) p q V = cond p (cond q (settled L U) U) (cond q L V)

abbrev pub mark_number : Mark → ℕ
mark_number Neither = 0
mark_number Call = 1
mark_number Put = 2
mark_number Both = 3

abbrev pub MarkRead : ℕ → Result Mark NoMark → Type 0
MarkRead n r = MatchResult r (λ m. mark_number m ≡ n) (λ e. (e.0 ≡ n) × (3 < n))

abbrev pub calls : ℕ → Bool
calls n = n == 1 || n == 3

abbrev pub puts : ℕ → Bool
puts n = n == 2 || n == 3
