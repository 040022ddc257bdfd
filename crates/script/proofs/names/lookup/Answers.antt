use Rattle.std.proofs.Common.{rules, tests}
use Rattle.std.specs.Str.{bytes_eq}
use Rattle.std.proofs.lemmas.Iterator.{YieldsList-from_slice}
use Rattle.std.proofs.lemmas.Iterator.Search.{find_from_yields_List}
use Rattle.script.proofs.Naming.{found_entry}
use Rattle.script.proofs.names.lookup.Goals as goal

pub returns : goal.returns
returns g c =
    found_entry c.args.names.now c.args.word.now c.find.result _
    (find_from_yields_List (λ e. bytes_eq c.args.word.now e.0.now) _ _ c.find.result c.find.ensures.ran (YieldsList-from_slice c.args.names.now c.iter.ensures.rest) (λ x b q k. search (rules, tests)))
    (search (rules, c.map.ensures.cases))
