-- A store that stands for records stands for one more once it was committed.
use Rattle.std.proofs.Common.{◌≡◌, Bool, true, false, not, ◌&&◌, cond, List, [], ◌∷◌, ◌++◌, refl, ap, ◌∙◌, length-append}
use Rattle.std.specs.List.{flat_map}
use Rattle.iss_model.specs.declared.input.Input.{Input}
use Rattle.iss_model.specs.declared.input.Input.TheVariants as input
use Rattle.iss_model.specs.declared.input.Record.{Record}
use Rattle.iss_model.specs.declared.entry.Entry.{Entry}
use Rattle.iss_model.specs.texts.Spelling.{is_record}
use Rattle.iss_model.specs.rules.Stepping.{step}
use Rattle.iss_model.specs.rules.Histories.{history_keeper, history_of}
use Rattle.iss_model.specs.run.Sayings.{Said, said_by, said_of_time, timed}
use Rattle.iss_core.specs.Values.{IsNext}
use Rattle.iss_core.proofs.OnBook.{steps_on_book}
use Rattle.iss_standing.proofs.NextRecords.{history_more}
use Rattle.iss_opening.specs.Values.{StoreNow, IsStore}
use Rattle.iss_opening.specs.Standing.{StandsFor}
use Rattle.iss_store.specs.Values.{Plan, DurableNow, is_time_input, is_told_time, said_of}
use Rattle.iss_store.specs.Committing.{Commits, CommitsOnBook, said_on_book}
use Rattle.iss_store.proofs.Books.{next_follows, count_on_book}
use Rattle.iss_store.proofs.Moves.{after_low, after_ends, room_moved}

-- that a time was taken, by the plan and by the book
time_said : (is_clock : Bool) (i : Input) → cond (not is_clock && is_time_input i) (timed ∷ []) [] ≡ cond is_clock [] (said_of_time i)
time_said true i = refl
time_said false input.Time = refl
time_said false _ = refl

said_more : (rs : List Record) (p : Plan) (d : DurableNow) → d.entries ≡ (step history_keeper (history_of rs) p.accepted).entries → d.is_time ≡ is_told_time p → said_of d ≡ said_on_book rs p
said_more rs p d entries is_time =
    ap (λ (es : List Entry). flat_map said_by es ++ cond d.is_time (timed ∷ []) []) entries
    ∙ ap (λ (b : Bool). flat_map said_by (step history_keeper (history_of rs) p.accepted).entries ++ cond b (timed ∷ []) []) is_time
    ∙ ap (λ (more : List Said). flat_map said_by (step history_keeper (history_of rs) p.accepted).entries ++ more) (time_said p.is_clock p.accepted.input)

pub stands_more : (before after : StoreNow) (p : Plan) (d : DurableNow) (rs : List Record) → IsStore before → IsNext before.core p.accepted → is_record p.accepted ≡ true → StandsFor before rs
    → Commits before p after d → CommitsOnBook before after rs p d
stands_more before after p d rs is next spelled stands commits =
    let r = p.accepted in
    let book = steps_on_book before.core after.core rs r d.entries stands.core commits.stepped in
    record {
      stands =
          record {
            history = history_more rs r stands.history (next_follows before.core rs r stands.core next) spelled;
            core = book.stands;
            low = after_low before rs r is stands after commits.point;
            ends = after_ends before rs r is stands after commits.place commits.layout commits.point;
          };
      room = room_moved before rs r is stands after commits.layout commits.point;
      number = commits.number ∙ count_on_book after.core (rs ++ r ∷ []) book.stands ∙ length-append {A = Record} rs (r ∷ []);
      entries = book.entries;
      said = said_more rs p d book.entries commits.is_time;
    }
