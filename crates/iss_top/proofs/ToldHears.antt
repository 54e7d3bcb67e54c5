-- What an edge tells of the world and of what was heard, for each call of a run that takes lines.
use Rattle.std.proofs.Common.{◌≡◌, ℕ, Bool, false, List, [], Option, Some, None, Ok, Err, take, refl}
use Rattle.std.specs.Prelude.{Result, IfOk, OnErr}
use Rattle.iss_edge.specs.declared.outside.Failed.{Failed}
use Rattle.iss_edge.specs.declared.outside.Answered.{Answered}
use Rattle.iss_edge.specs.declared.outside.Answered.TheVariants.{Took}
use Rattle.iss_edge.specs.Channels.{Channels}
use Rattle.iss_edge.specs.World.{World, Told, Faults}
use Rattle.iss_edge.specs.Calls.{Same, Takes, Hears, HearsNothing, heard_take}
use Rattle.iss_edge.specs.Outer.{Outer, outer_of, Adds, ToldBoth}
use Rattle.iss_edge.proofs.Outers.{told_outer}
use Rattle.iss_edge.proofs.Tolds.{told_map, told_then, told_self}
use Rattle.iss_model.specs.declared.input.Record.{Record}
use Rattle.iss_opening.specs.Values.{StoreNow}
use Rattle.iss_store.specs.declared.fault.StoreFault.{StoreFault}
use Rattle.iss_store.specs.declared.fault.StoreFault.TheVariants as fault
use Rattle.iss_store.specs.Committing.{KeepsPart}
use Rattle.iss_store.specs.Saying.{SaysLines, SayingCause}
use Rattle.iss_texts.specs.Sending.{Says, SaysSome, SentEach, StopsAt}
use Rattle.iss_top.specs.Lines.{has_line_feed}
use Rattle.iss_top.specs.Hearing.{TakesPiece, ReadsAsHeard, SendsAsHeard, SendsOnBook}
use Rattle.iss_top.proofs.Reading.{ReadSoFar}
use Rattle.iss_top.proofs.Hears.{takes_piece, takes_no_piece, reads_begins, reads_more, sends_nothing, sends_each, sends_some, sends_none, on_book_anyway, on_book_then, commits_silently}

-- what is told of the world, beside what is told of it and of what was heard
pub told_with : (R : World → World → Type 0) (S T : Outer → Outer → Type 0) (x y : Option World) (h k : Option (List Answered)) → ((a b : Outer) → R a.world b.world → S a b → T a b)
    → Told R x y → Told S (outer_of x h) (outer_of y k) → Told T (outer_of x h) (outer_of y k)
told_with R S T None None h k f r s = tt
told_with R S T (Some a) None None k f r s = tt
told_with R S T (Some a) None (Some h) k f r s = tt
told_with R S T None (Some b) h None f r s = tt
told_with R S T None (Some b) h (Some k) f r s = absurd r
told_with R S T (Some a) (Some b) None None f r s = tt
told_with R S T (Some a) (Some b) None (Some k) f r s = absurd s
told_with R S T (Some a) (Some b) (Some h) None f r s = tt
told_with R S T (Some a) (Some b) (Some h) (Some k) f r s = f (record { world = a; heard = h }) (record { world = b; heard = k }) r s

-- ---- a take

pub told_piece : (buffer : List ℕ) (result : Result ℕ Failed) (x y : Option World) (h k : Option (List Answered)) → IfOk result (λ count. Told (Takes (record { 0 = 0 }) count buffer) x y) → OnErr result (Told Same x y)
    → Told (Hears (heard_take (record { 0 = 0 }) buffer result)) h k → Told TakesPiece (outer_of x h) (outer_of y k)
told_piece buffer (Ok count) x y h k taken same heard =
    told_outer (Takes (record { 0 = 0 }) count buffer) (Hears (Took (record { 0 = 0 }) (Some (take count buffer)))) TakesPiece (takes_piece buffer count) x y h k taken heard
told_piece buffer (Err e) x y h k taken same heard =
    told_outer Same (Hears (Took (record { 0 = 0 }) None)) TakesPiece takes_no_piece x y h k same heard

-- ---- a line

pub told_reads_begins : (ended : Bool) (unread : List ℕ) (o : Option Outer) → Told (ReadsAsHeard ended unread) o o
told_reads_begins ended unread o = told_self (ReadsAsHeard ended unread) o (reads_begins ended unread)

-- what was read so far, and what was heard of it
record ReadAndHeard (ended : Bool) (unread : List ℕ) (taken : ℕ) (u k : List ℕ) (t : ℕ) (a b : Outer) : Type 0 where
  read : ReadSoFar unread taken u k t a.world b.world
  heard : ReadsAsHeard ended unread a b

pub told_reads_more : (ended : Bool) (unread : List ℕ) (taken : ℕ) (u k : List ℕ) (t : ℕ) (x y z : Option World) (h i j : Option (List Answered)) → ended ≡ false → has_line_feed u ≡ false
    → Told (ReadSoFar unread taken u k t) x y → Told (ReadsAsHeard ended unread) (outer_of x h) (outer_of y i) → Told TakesPiece (outer_of y i) (outer_of z j)
    → Told (ReadsAsHeard ended unread) (outer_of x h) (outer_of z j)
told_reads_more ended unread taken u k t x y z h i j going none read heard piece =
    told_then (ReadAndHeard ended unread taken u k t) TakesPiece (ReadsAsHeard ended unread) (outer_of x h) (outer_of y i) (outer_of z j)
    (λ a b c both p. reads_more ended unread taken u k t a b c going none both.read both.heard p)
    (told_with (ReadSoFar unread taken u k t) (ReadsAsHeard ended unread) (ReadAndHeard ended unread taken u k t) x y h i (λ a b r s. record { read = r; heard = s }) read heard) piece

-- ---- texts

pub told_sends_nothing : (o : Option Outer) → Told SendsAsHeard o o
told_sends_nothing o = told_self SendsAsHeard o sends_nothing

pub told_sends_each : (texts : List (List ℕ)) (x y : Option World) (h k : Option (List Answered)) → Told (Says texts) x y → Told (SentEach texts) (outer_of x h) (outer_of y k) → Told SendsAsHeard (outer_of x h) (outer_of y k)
told_sends_each texts x y h k says sent = told_with (Says texts) (SentEach texts) SendsAsHeard x y h k (sends_each texts) says sent

pub told_sends_some : (texts : List (List ℕ)) (x y : Option World) (h k : Option (List Answered)) → Told (SaysSome texts) x y → Told (StopsAt texts) (outer_of x h) (outer_of y k) → Told SendsAsHeard (outer_of x h) (outer_of y k)
told_sends_some texts x y h k says stopped = told_with (SaysSome texts) (StopsAt texts) SendsAsHeard x y h k (sends_some texts) says stopped

-- what a store says over lines, whether or not it fails
pub told_says_lines : {E T : Type 0} (told : E → Option World) (heard : E → Option (List Answered)) (opened : E → Channels) (a b : E) (texts : List (List ℕ)) (f g : Faults) (result : Result T StoreFault)
    → SaysLines told heard opened a b texts result → SayingCause f g result → ToldBoth told heard SendsAsHeard a b
told_says_lines told heard opened a b texts f g (Ok value) says cause =
    told_sends_each texts (told a) (told b) (heard a) (heard b) says.says says.sent
told_says_lines told heard opened a b texts f g (Err fault.Disk) says cause = absurd (cause.no_disk refl)
told_says_lines told heard opened a b texts f g (Err fault.Output) says cause =
    told_sends_some texts (told a) (told b) (heard a) (heard b) says.part (says.stopped refl)
told_says_lines told heard opened a b texts f g (Err fault.OutOfMemory) says cause =
    told_with (SaysSome texts) (Adds [] []) SendsAsHeard (told a) (told b) (heard a) (heard b) (sends_none texts) says.part (says.unsent refl)

-- ---- on the book

pub told_on_book : (s : StoreNow) (o p : Option Outer) → Told SendsAsHeard o p → Told (SendsOnBook s) o p
told_on_book s o p sends = told_map SendsAsHeard (SendsOnBook s) o p (on_book_anyway s) sends

pub told_on_book_none : (s : StoreNow) (o : Option Outer) → Told (SendsOnBook s) o o
told_on_book_none s o = told_on_book s o o (told_sends_nothing o)

pub told_on_book_then : (s : StoreNow) (o p q : Option Outer) → Told (SendsOnBook s) o p → Told SendsAsHeard p q → Told (SendsOnBook s) o q
told_on_book_then s o p q first second =
    told_then (SendsOnBook s) SendsAsHeard (SendsOnBook s) o p q (on_book_then s) first second

pub told_commits_silently : (s : StoreNow) (r : Record) (x y : Option World) (h k : Option (List Answered)) → Told (KeepsPart s r) x y → Told HearsNothing h k → Told (SendsOnBook s) (outer_of x h) (outer_of y k)
told_commits_silently s r x y h k keeps same =
    told_outer (KeepsPart s r) HearsNothing (SendsOnBook s) (commits_silently s r) x y h k keeps same
