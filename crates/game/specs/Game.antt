-- A bond with calls and puts on a rate lattice, as a game. Throughout, m is the lattice, σ the clash rule,
-- b the terms, s the spread, (t, j) node j of step t.
--   coupon, right   what the terms hold for a step
--   rolled_on       the rolled figure of the next step's values, each plus that step's coupon
--   stream          a price paid k steps later, with the coupons in between, free of options
--   amount          what the right of a kind pays at a node, where its step holds one
--   figure_from     the figure of a node, d steps before a step whose entries are g
--   mark_from       its mark, as the byte that stands for it
--   figure, mark    those of backward induction: d steps before the last step, whose entries are the redemption
--   Plan            a set of nodes
--   played          the value of a node if the issuer plays the call plan p and the holder the put plan q
--   root            the figure of node 0 of step 0
-- Assumes nothing.
use Rattle.std.specs.Prelude.{ℕ, zero, suc, ◌+◌, ◌-◌, Bool, map, replicate, Some, None, Option, slice_index, slice_index_or}
use Rattle.std.specs.List.{range_with_len}
use Rattle.rates.specs.Model.{Model}
use Rattle.game.specs.declared.terms.Right.{Right}
use Rattle.game.specs.declared.terms.Terms.{Terms}
use Rattle.game.specs.declared.terms.Kind.{Kind}
use Rattle.game.specs.declared.terms.Kind.TheVariants.{Call, Put}
use Rattle.game.specs.Rule.{figure_of, mark_of, mark_number, play_of}

abbrev pub coupon : Terms → ℕ → ℕ
coupon b t = slice_index b.coupons t

abbrev pub right : Terms → Kind → ℕ → Option Right
right b Call t = slice_index_or b.calls t None
right b Put t = slice_index_or b.puts t None

abbrev pub rolled_on : Model → Terms → ℕ → ℕ → ℕ → (ℕ → ℕ) → ℕ
rolled_on m b s t j f = m.rolled t j s (map (λ (i : ℕ). f i + coupon b (t + 1)) (range_with_len 0 (m.count (t + 1))))

abbrev pub stream : Model → Terms → ℕ → ℕ → ℕ → ℕ → ℕ → ℕ
stream m b s price zero t j = price
stream m b s price (suc k) t j = rolled_on m b s t j (stream m b s price k (t + 1))

abbrev pub pays : Model → Terms → ℕ → ℕ → ℕ → Option Right → Option ℕ
pays m b s t j None = None
pays m b s t j (Some r) = Some (stream m b s r.price r.notice t j)

abbrev pub amount : Model → Terms → ℕ → Kind → ℕ → ℕ → Option ℕ
amount m b s kind t j = pays m b s t j (right b kind t)

abbrev pub figure_from : Model → (ℕ → ℕ → ℕ) → Terms → ℕ → (ℕ → ℕ) → ℕ → ℕ → ℕ → ℕ
figure_from m σ b s g zero t j = g j
figure_from m σ b s g (suc d) t j =
    figure_of σ (amount m b s Put t j) (amount m b s Call t j) (rolled_on m b s t j (figure_from m σ b s g d (t + 1)))

abbrev pub mark_from : Model → (ℕ → ℕ → ℕ) → Terms → ℕ → (ℕ → ℕ) → ℕ → ℕ → ℕ → ℕ
mark_from m σ b s g zero t j = 0
mark_from m σ b s g (suc d) t j =
    mark_number (mark_of (amount m b s Put t j) (amount m b s Call t j) (rolled_on m b s t j (figure_from m σ b s g d (t + 1))))

abbrev pub redeemed : Terms → ℕ → ℕ
redeemed b j = b.redemption

abbrev pub figure : Model → (ℕ → ℕ → ℕ) → Terms → ℕ → ℕ → ℕ → ℕ
figure m σ b s t j = figure_from m σ b s (redeemed b) (m.steps - t) t j

abbrev pub mark : Model → (ℕ → ℕ → ℕ) → Terms → ℕ → ℕ → ℕ → ℕ
mark m σ b s t j = mark_from m σ b s (redeemed b) (m.steps - t) t j

abbrev pub Plan : Type 0
Plan = ℕ → ℕ → Bool

abbrev pub played_from : Model → (ℕ → ℕ → ℕ) → Terms → ℕ → Plan → Plan → ℕ → ℕ → ℕ → ℕ
played_from m σ b s p q zero t j = b.redemption
played_from m σ b s p q (suc d) t j =
    play_of σ (amount m b s Put t j) (amount m b s Call t j) (p t j) (q t j) (rolled_on m b s t j (played_from m σ b s p q d (t + 1)))

abbrev pub played : Model → (ℕ → ℕ → ℕ) → Terms → ℕ → Plan → Plan → ℕ → ℕ → ℕ
played m σ b s p q t j = played_from m σ b s p q (m.steps - t) t j

abbrev pub root : Model → (ℕ → ℕ → ℕ) → Terms → ℕ → ℕ
root m σ b s = figure m σ b s 0 0

-- the terms without the rights of a kind
abbrev pub without : Kind → Terms → Terms
without Call b = record { redemption = b.redemption; coupons = b.coupons; calls = replicate 64 None; puts = b.puts }
without Put b = record { redemption = b.redemption; coupons = b.coupons; calls = b.calls; puts = replicate 64 None }
