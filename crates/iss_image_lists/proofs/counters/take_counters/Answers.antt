use Rattle.std.proofs.Common.{◌≡◌, ℕ, List, Option, Some, None, IfOk, subst, rules}
use Rattle.iss_model.specs.declared.counted.Counter.{Counter}
use Rattle.iss_codec.specs.Places.{take_place}
use Rattle.iss_codec.specs.Taking.{take_number}
use Rattle.iss_image_lists.specs.Readers.{taken_things}
use Rattle.iss_image_lists.proofs.TakenRuns.{counters_along, none_along}
use Rattle.iss_image_lists.proofs.counters.take_counters.Goals as goal

pub returns-in_default : goal.returns-in_default
returns-in_default g c =
    let none : take_number 4 c.args.reader.now.bytes.now ≡ None = search rules in
    record { read = none_along (take_place c.args.tokens.now) (g.W.Windows.window_of c.args.windows.now) c.args.reader.now.bytes.now none }

pub returns : goal.returns
returns g c =
    let number : take_number 4 c.args.reader.now.bytes.now ≡ Some (c.in-Some.count, c.take_u32.new.self.bytes.now) = search rules in
    record {
      read =
          subst (λ (x : Option (List Counter × List ℕ)). IfOk c.take_runs.result (λ found. taken_things found c.take_runs.new.reader.bytes.now ≡ x))
          (counters_along (take_place c.args.tokens.now) (g.W.Windows.window_of c.args.windows.now) c.args.reader.now.bytes.now (c.in-Some.count, c.take_u32.new.self.bytes.now) number)
          c.take_runs.ensures;
    }
