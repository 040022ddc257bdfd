-- A script read line by line. Assumes nothing.
use Rattle.std.proofs.Common.{◌≡◌, ℕ, ◌+◌, ◌<◌, ◌≤◌, Bool, ◌||◌, List, get_or, drop, [], ◌∷◌, ◌++◌, length, Some, None, Ok, Err, Option, Result, sym, refl, ap, ◌∙◌, append_assoc, append-nil, length-append, subst, arith}
use Rattle.std.proofs.lemmas.List.{at_drop_more, drop_all}
use Rattle.std.specs.Option.{option_map}
use Rattle.std.specs.Result.{MatchResult}
use Rattle.script.specs.declared.command.Command.{Command}
use Rattle.script.specs.declared.cuts.Mark.TheVariants.{LineEnd}
use Rattle.script.specs.declared.fault.Expected.{Expected}
use Rattle.script.specs.declared.fault.Unread.TheVariants.{Fault, Memory}
use Rattle.script.specs.Commands.{Meaning, meant, opens_sheet}
use Rattle.script.specs.Cuts.{cuts, lines_of}
use Rattle.script.specs.Faults.{LineError, ReadError, Gives, at_line}
use Rattle.script.specs.Script.{Script, line_of, first, onward, script_from, Reads}
use Rattle.script.proofs.Pieces.{of_split}
use Rattle.std.specs.List.{slice_split, enumerate_from}
use Rattle.std.proofs.lemmas.List.FromFn.{length-enumerate_from, get_or-enumerate_from}

-- m is the line's answer r, where a fault is put at its place k
pub record Placed (r : Result (Option Command) LineError) (k : ℕ) (m : Result (Option Command) ReadError) : Type 0 where
  pub at : MatchResult r (λ x. m ≡ Ok x) (λ e. m ≡ Err (at_line k e))

module _ {r : Result (Option Command) LineError} {k : ℕ} {m : Result (Option Command) ReadError} (placed : Placed r k m) (want : Result (Option Meaning) Expected) (gives : Gives (option_map meant) want r) where
  pub read_at : {o : Option Command} → m ≡ Ok o → want ≡ Ok (option_map meant o)
  read_at {o} is = read r placed.at gives
    where
      read : (r : Result (Option Command) LineError) → MatchResult r (λ x. m ≡ Ok x) (λ e. m ≡ Err (at_line k e)) → Gives (option_map meant) want r → want ≡ Ok (option_map meant o)
      read (Ok x) at gives = let same : x ≡ o = cc in gives ∙ ap (λ (p : Option Command). Ok (option_map meant p)) same
      read (Err e) at gives = cc

  pub fault_at : {f : ReadError} → m ≡ Err f → {all : Script} → ((e : LineError) → Gives (option_map meant) want (Err e) → Reads all (Err (at_line k e))) → Reads all (Err f)
  fault_at {f} is {all} fault = fail r placed.at gives
    where
      fail : (r : Result (Option Command) LineError) → MatchResult r (λ x. m ≡ Ok x) (λ e. m ≡ Err (at_line k e)) → Gives (option_map meant) want r → Reads all (Err f)
      fail (Ok x) at gives = absurd (cc)
      fail (Err e) at gives = let same : at_line k e ≡ f = cc in subst (λ (g : ReadError). Reads all (Err g)) same (fault e gives)

-- a script with other calls in front
abbrev pub prefixed : List Meaning → Script → Script
prefixed ms (Err f) = Err f
prefixed ms (Ok ns) = Ok (ms ++ ns)

prefixed_push : (ms : List Meaning) (m : Meaning) (s : Script) → prefixed ms (first m s) ≡ prefixed (ms ++ m ∷ []) s
prefixed_push ms m (Err f) = refl
prefixed_push ms m (Ok ns) = ap Ok (sym (append_assoc ms (m ∷ []) ns))

prefixed_none : (s : Script) → s ≡ prefixed [] s
prefixed_none (Err f) = refl
prefixed_none (Ok ns) = refl

-- an empty last line says nothing
empty_end : (b : Bool) (n : ℕ) (ls : List (List ℕ)) → script_from b n (ls ++ [] ∷ []) ≡ script_from b n ls
empty_end b n [] = refl
empty_end b n (l ∷ ls) = λ i. onward b n (line_of b l) (λ c. empty_end c (n + 1) ls i)

lines_split : (b : Bool) (text : List ℕ) → script_from b 1 (slice_split (cuts LineEnd) text) ≡ script_from b 1 (lines_of text)
lines_split b text = of_split (script_from b 1) (empty_end b 1) (cuts LineEnd) text

-- the line that a loop over the lines, each with its place a, comes to behind n others
pub record Turn (lines : List (List ℕ)) (n a : ℕ) (line : List ℕ) : Type 0 where
  pub within : n < length lines
  pub place : a ≡ n
  pub text : line ≡ get_or lines n line

pub at_turn : (lines : List (List ℕ)) (n a : ℕ) (line : List ℕ) → n < length (enumerate_from 0 lines) → (a, line) ≡ get_or (enumerate_from 0 lines) n (a, line) → Turn lines n a line
at_turn lines n a line h e =
    let l : n < length lines = omega (arith, h, length-enumerate_from 0 lines) in
    let is = e ∙ get_or-enumerate_from 0 lines n (a, line) l in
    record { within = l; place = ap (λ (p : ℕ × List ℕ). p.0) is ∙ omega arith; text = ap (λ (p : ℕ × List ℕ). p.1) is }

-- ms are the calls of the first n lines, b tells whether a sheet is open behind them, and all is the whole script
pub record Sofar (lines : List (List ℕ)) (b : Bool) (n : ℕ) (ms : List Meaning) (all : Script) : Type 0 where
  pub split : all ≡ prefixed ms (script_from b (n + 1) (drop n lines))

pub all_lines : (b : Bool) (text : List ℕ) {ms : List Meaning} → ms ≡ [] → Sofar (slice_split (cuts LineEnd) text) b 0 ms (script_from b 1 (lines_of text))
all_lines b text e =
    record { split = sym (lines_split b text) ∙ prefixed_none _ ∙ ap (λ (ms : List Meaning). prefixed ms (script_from b 1 (slice_split (cuts LineEnd) text))) (sym e) }

-- one line more is behind the loop
pub pushed_line : {A : Type 0} {lines : List (List ℕ)} {b : Bool} {ms : List Meaning} {all : Script} (xs : List A) (x : A) → Sofar lines b (length xs + 1) ms all → Sofar lines b (length (xs ++ x ∷ [])) ms all
pushed_line {lines = lines} {b} {ms} {all} xs x h = subst (λ (n : ℕ). Sofar lines b n ms all) (sym (length-append xs (x ∷ []))) h

module _ {lines : List (List ℕ)} {b : Bool} {n : ℕ} {ms : List Meaning} {all : Script} (h : Sofar lines b n ms all) where
  pub lines_all : length lines ≤ n → all ≡ Ok ms
  lines_all l = h.split ∙ ap (λ (ls : List (List ℕ)). prefixed ms (script_from b (n + 1) ls)) (drop_all n lines l) ∙ ap Ok (append-nil ms)

  module _ {a : ℕ} {line : List ℕ} (turn : Turn lines n a line) where
    -- what the line says, and then the lines below it
    from_line : {o : Result (Option Meaning) Expected} → line_of b line ≡ o → all ≡ prefixed ms (onward b (n + 1) o (λ c. script_from c (n + 1 + 1) (drop (n + 1) lines)))
    from_line e =
        h.split
        ∙ ap (prefixed ms) (at_drop_more (script_from b (n + 1)) lines n line turn.within)
        ∙ (λ i. prefixed ms (onward b (n + 1) (line_of b (sym turn.text i)) (λ c. script_from c (n + 1 + 1) (drop (n + 1) lines))))
        ∙ ap (λ (o : Result (Option Meaning) Expected). prefixed ms (onward b (n + 1) o (λ c. script_from c (n + 1 + 1) (drop (n + 1) lines)))) e

    pub line_fault : {X : Type 0} (f : X → Option Meaning) (e : LineError) → Gives f (line_of b line) (Err e) → Reads all (Err (at_line (a + 1) e))
    line_fault f (Fault x) e = from_line e ∙ ap (λ (k : ℕ). Err (record { line = k + 1; expected = x })) (sym turn.place)
    line_fault f Memory e = tt

    -- o is the line's command
    module _ {o : Option Command} (e : line_of b line ≡ Ok (option_map meant o)) where
      pub line_none : o ≡ None → Sofar lines b (n + 1) ms all
      line_none none = record { split = from_line (e ∙ ap (λ (p : Option Command). Ok (option_map meant p)) none) }

      pub line_call : {m : Command} → o ≡ Some m → {c : Bool} → c ≡ opens_sheet (meant m) → {ns : List Meaning} → ns ≡ ms ++ meant m ∷ [] → Sofar lines (b || c) (n + 1) ns all
      line_call {m} is_m opens put =
          record {
            split = from_line (e ∙ ap (λ (p : Option Command). Ok (option_map meant p)) is_m)
                ∙ prefixed_push ms (meant m) _
                ∙ (λ i. prefixed (sym put i) (script_from (b || sym opens i) (n + 1 + 1) (drop (n + 1) lines)));
          }
