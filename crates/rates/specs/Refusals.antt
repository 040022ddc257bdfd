-- How every layer tells a result.
--   Refusal           a number, and its trail: place and layer, from the outermost layer in
--   Told              what was accepted, or the refusal
--   told              a result as it is told, by what a fault of its layer says
--   seen              a told result with what it accepted seen in another way
--   and_then          the second of two told results, unless the first refuses
--   layer_text        a layer in print
--   place_text        a place in print: where, a blank, the layer
--   lattice_number    the number of a lattice's fault
--   lattice_place     its place
--   lattice_refusal   both
-- Assumes nothing.
use Rattle.std.specs.Prelude.{ℕ, List, [], ◌∷◌, ◌++◌, codes, decimal, Ok, Err, Result}
use Rattle.rates.specs.declared.fault.Layer.{Layer}
use Rattle.rates.specs.declared.fault.Layer.TheVariants.{Lattice, Sheet, Record}
use Rattle.rates.specs.declared.fault.Place.{Place}
use Rattle.rates.specs.declared.fault.LatticeFault.{LatticeFault}
use Rattle.rates.specs.declared.fault.LatticeFault.TheVariants.{Steps, Length, Rate, Weights}

pub record Refusal : Type 0 where
  pub number : ℕ
  pub trail : List Place

pub data Told (X : Type 0) : Type 0 where
  accepted : X → Told X
  refused : Refusal → Told X

abbrev pub told : {X F : Type 0} → (F → Refusal) → Result X F → Told X
told f (Ok x) = accepted x
told f (Err e) = refused (f e)

abbrev pub seen : {X Y : Type 0} → (X → Y) → Told X → Told Y
seen f (accepted x) = accepted (f x)
seen f (refused r) = refused r

abbrev pub and_then : {X Y : Type 0} → Told X → Told Y → Told Y
and_then (accepted _) next = next
and_then (refused r) next = refused r

abbrev pub layer_text : Layer → List ℕ
layer_text Lattice = codes "lattice"
layer_text Sheet = codes "sheet"
layer_text Record = codes "record"

abbrev pub place_text : Place → List ℕ
place_text p = decimal p.at ++ (32 ∷ layer_text p.layer)

abbrev pub lattice_number : LatticeFault → ℕ
lattice_number Steps = 3
lattice_number (Length _) = 4
lattice_number (Rate _) = 5
lattice_number Weights = 6

abbrev pub lattice_place : LatticeFault → Place
lattice_place Steps = record { at = 0; layer = Lattice }
lattice_place (Length want) = record { at = want; layer = Lattice }
lattice_place (Rate index) = record { at = index; layer = Lattice }
lattice_place Weights = record { at = 0; layer = Lattice }

abbrev pub lattice_refusal : LatticeFault → Refusal
lattice_refusal f = record { number = lattice_number f; trail = lattice_place f ∷ [] }
