-- Parts of bytes that are read or written.
--   Cut      the n bytes of src at a place, and the place after them
--   written  an output with bytes written at a place
--   Wrote    bytes were written at a place, and the place after them
-- Assumes nothing.
use Rattle.std.specs.Prelude.{◌≡◌, ℕ, ◌+◌, ◌≤◌, List, ◌++◌, length, take, drop}

pub record Cut (n : ℕ) (src : List ℕ) (at next : ℕ) (bytes : List ℕ) (place : ℕ) : Type 0 where
  pub whole : at + n ≤ length src
  pub here : place ≡ at
  pub after : next ≡ at + n
  pub is : bytes ≡ take n (drop at src)
  pub long : length bytes ≡ n

abbrev pub written : ℕ → List ℕ → List ℕ → List ℕ
written at bytes out = take at out ++ (bytes ++ drop (at + length bytes) out)

pub record Wrote (bytes : List ℕ) (at : ℕ) (before after : List ℕ) (next : ℕ) : Type 0 where
  pub all : after ≡ written at bytes before
  pub end : next ≡ at + length bytes
