-- Lists by their places. Assumes nothing.
use Rattle.std.proofs.Common.{◌≡◌, ℕ, ◌≤◌, List, map, length, get_or, take}
use Rattle.std.specs.List.{range_with_len}
use Rattle.std.proofs.lemmas.List.{get_or-take, length-take-le}
use Rattle.std.proofs.lemmas.List.FromFn.{fill_by_all}

-- the front of a list, by its places
pub front : (xs : List ℕ) (n : ℕ) → n ≤ length xs → take n xs ≡ map (λ i. get_or xs i 0) (range_with_len 0 n)
front xs n h = fill_by_all (λ i. get_or xs i 0) (take n xs) n 0 (length-take-le n xs h) (λ k l. get_or-take n xs k 0 l)
