-- Lines and words, as what stands between the bytes that a text is cut at.
--   cuts m b        whether the byte b is the mark m: a line end (10), a comment's beginning (35), or what separates words, a
--                   blank (32), a tab (9) or a carriage return (13)
--   before f bs     the bytes in front of the first that f holds of; all where there is none
--   pieces f bs     what stands between the bytes that f holds of, in order; the last piece may lack such a byte behind it
--   filled ps       those of the pieces that are not empty
--   lines_of text   its lines
--   words_of line   its words, up to the comment
--   texts ws        what the references ws point to
-- Assumes nothing.
use Rattle.std.specs.Prelude.{ℕ, Bool, cond, ◌||◌, List, [], ◌∷◌, map, ◌==◌}
use Rattle.std.specs.Borrow.{Bor}
use Rattle.script.specs.declared.cuts.Mark.{Mark}
use Rattle.script.specs.declared.cuts.Mark.TheVariants.{LineEnd, Comment, Blank}

abbrev pub cuts : Mark → ℕ → Bool
cuts LineEnd b = b == 10
cuts Comment b = b == 35
cuts Blank b = b == 32 || (b == 9 || b == 13)

abbrev pub before : (ℕ → Bool) → List ℕ → List ℕ
before f [] = []
before f (b ∷ bs) = cond (f b) [] (b ∷ before f bs)

-- a byte put in front of the first piece
abbrev pub onto : ℕ → List (List ℕ) → List (List ℕ)
onto b [] = (b ∷ []) ∷ []
onto b (p ∷ ps) = (b ∷ p) ∷ ps

abbrev pub pieces : (ℕ → Bool) → List ℕ → List (List ℕ)
pieces f [] = []
pieces f (b ∷ bs) = cond (f b) ([] ∷ pieces f bs) (onto b (pieces f bs))

abbrev pub filled : List (List ℕ) → List (List ℕ)
filled [] = []
filled ([] ∷ ps) = filled ps
filled ((b ∷ bs) ∷ ps) = (b ∷ bs) ∷ filled ps

abbrev pub lines_of : List ℕ → List (List ℕ)
lines_of text = pieces (cuts LineEnd) text

abbrev pub words_of : List ℕ → List (List ℕ)
words_of line = filled (pieces (cuts Blank) (before (cuts Comment) line))

abbrev pub texts : List (Bor (List ℕ)) → List (List ℕ)
texts ws = map (λ w. w.now) ws
