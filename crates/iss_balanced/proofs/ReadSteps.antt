-- A step keeps the keys of balances read, and what balances add up to.
use Rattle.std.proofs.Common.{◌≡◌, fold, List, true}
use Rattle.std.specs.List.{list_all}
use Rattle.iss_model.specs.declared.currency.Currency.{Currency}
use Rattle.iss_model.specs.declared.entry.Entry.{Entry}
use Rattle.iss_model.specs.declared.input.Record.{Record}
use Rattle.iss_model.specs.rules.Activity.{TxnNow}
use Rattle.iss_model.specs.rules.Due.{thing_entries}
use Rattle.iss_model.specs.rules.Stepping.{entries_of, step}
use Rattle.iss_model.specs.state.Cores.{CoreState, after_entry, core_facts, core_keeper, with_record}
use Rattle.iss_model.specs.texts.Spelling.{is_record}
use Rattle.iss_acts.specs.Posts.{posts_within_one_currency}
use Rattle.iss_acts.proofs.Posts.{posts_within}
use Rattle.iss_acts.proofs.Stepping.{GoesThrough, step_leads}
use Rattle.iss_acts.proofs.Walk.{due_holds, own_holds}
use Rattle.iss_rebuilt.proofs.TokenActs.{due_named, own_named}
use Rattle.iss_rebuilt.proofs.TokenBooks.{record_named}
use Rattle.iss_rebuilt.proofs.Tokens.{AreNamed, entries_named, is_named_entry}
use Rattle.iss_balanced.proofs.ListedInOrder.{AddUp, entries_add_up}
use Rattle.iss_balanced.proofs.ReadKeys.{AreRead, entries_read}

pub record StayRead (s : CoreState) (es : List Entry) (t : CoreState) : Type 0 where
  pub read : AreRead s.balances → AreRead t.balances
  pub names : AreNamed s → AreNamed t
  pub sums : (c : Currency) → AddUp c s.balances → AddUp c t.balances

entered_read : (s : CoreState) (es : List Entry) → list_all (is_named_entry (fold after_entry s es).holdings.txns) es ≡ true → list_all posts_within_one_currency es ≡ true → StayRead s es (fold after_entry s es)
entered_read s es h within =
    let txns : List TxnNow = (fold after_entry s es).holdings.txns in record { read = entries_read txns s es h; names = entries_named s txns es h; sums = λ c. entries_add_up c txns s es h within }

pub step_read : (c : CoreState) (r : Record) → is_record r ≡ true → AreNamed c → StayRead (with_record c r) (step core_keeper c r).entries (step core_keeper c r).world
step_read c r form named = step_leads c r goes (record { cards = named.cards; txns = named.txns })
  where
    goes : GoesThrough AreNamed StayRead r.input r.at
    goes =
        record {
          none = λ t. record { read = λ h. h; names = λ h. h; sums = λ c h. h };
          then = λ s t u xs ys h k. record { read = λ all. k.read (h.read all); names = λ all. k.names (h.names all); sums = λ c all. k.sums c (h.sums c all) };
          due = λ t thing ready. entered_read t (thing_entries thing r.at (core_facts t)) (due_named t thing r.at ready) (due_holds (core_facts t) thing r.at posts_within).all;
          own = λ t ready. entered_read t (entries_of r.input r.at (core_facts t)) (own_named t r.input r.at (record_named r form) ready) (own_holds (core_facts t) r.input r.at posts_within).all;
          stays = λ t thing ready. (entered_read t (thing_entries thing r.at (core_facts t)) (due_named t thing r.at ready) (due_holds (core_facts t) thing r.at posts_within).all).names ready;
        }
