-- What an edge tells of a prompt run, call after call.
use Rattle.std.proofs.Common.{List, [], Option}
use Rattle.iss_edge.specs.declared.outside.Answered.{Answered}
use Rattle.iss_edge.specs.World.{World, Told}
use Rattle.iss_edge.specs.Calls.{HearsNothing}
use Rattle.iss_edge.specs.Outer.{Outer, outer_of}
use Rattle.iss_edge.proofs.Outers.{told_outer}
use Rattle.iss_edge.proofs.Tolds.{told_map, told_then, told_self}
use Rattle.iss_model.specs.state.Cores.{CoreState}
use Rattle.iss_opening.specs.Values.{StoreNow}
use Rattle.iss_opening.specs.Opening.{OpensGood, OpenedAs}
use Rattle.iss_store.specs.Saying.{texts_pending}
use Rattle.iss_device.proofs.Devices.{stands_opened}
use Rattle.iss_texts.specs.Sending.{Says}
use Rattle.iss_top.specs.Reader.{ReaderNow}
use Rattle.iss_top.specs.Progress.{IsOnItsWay}
use Rattle.iss_top.specs.Replaying.{IsReplaying}
use Rattle.iss_top.specs.Hearing.{AsHeard, ReadsAsHeard, SendsAsHeard, SendsOnBook}
use Rattle.iss_top.specs.Promptness.{HearsPromptly, dry_owed, replay_owed, RunsPromptly, RepliesPromptly}
use Rattle.iss_top.proofs.Hears.{as_heard_none}
use Rattle.iss_top.proofs.ToldHears.{told_with}
use Rattle.iss_top.proofs.ToldReplays.{WaitsOnBook}
use Rattle.iss_top.proofs.Promptly.{prompt_none, prompt_sends, dry_reads, run_begins, run_reads, run_sends, opens_silently, replies_promptly}

-- ---- a dry run

pub told_dry_begins : (o : Option Outer) → Told (HearsPromptly dry_owed) o o
told_dry_begins o = told_self (HearsPromptly dry_owed) o (λ a. prompt_none dry_owed a a (as_heard_none a))

record DryOnWay (s : CoreState) (now : ReaderNow) (a b : Outer) : Type 0 where
  way : IsOnItsWay s now a.world b.world
  prompt : HearsPromptly dry_owed a b

pub told_dry_reads : (s : CoreState) (now : ReaderNow) (x y z : Option World) (h i j : Option (List Answered)) → Told (IsOnItsWay s now) x y → Told (HearsPromptly dry_owed) (outer_of x h) (outer_of y i)
    → Told (ReadsAsHeard now.ended now.unread) (outer_of y i) (outer_of z j) → Told (HearsPromptly dry_owed) (outer_of x h) (outer_of z j)
told_dry_reads s now x y z h i j way prompt reads =
    told_then (DryOnWay s now) (ReadsAsHeard now.ended now.unread) (HearsPromptly dry_owed) (outer_of x h) (outer_of y i) (outer_of z j)
    (λ a b c on r. dry_reads s now a b c on.way on.prompt r)
    (told_with (IsOnItsWay s now) (HearsPromptly dry_owed) (DryOnWay s now) x y h i (λ a b w p. record { way = w; prompt = p }) way prompt) reads

pub told_dry_sends : (o p q : Option Outer) → Told (HearsPromptly dry_owed) o p → Told SendsAsHeard p q → Told (HearsPromptly dry_owed) o q
told_dry_sends o p q prompt sends =
    told_then (HearsPromptly dry_owed) SendsAsHeard (HearsPromptly dry_owed) o p q (prompt_sends dry_owed) prompt sends

-- ---- lines on a store

pub told_run_begins : (s : StoreNow) (o : Option Outer) → Told (RunsPromptly s) o o
told_run_begins s o = told_self (RunsPromptly s) o (run_begins s)

record RunOnWay (opened s : StoreNow) (now : ReaderNow) (a b : Outer) : Type 0 where
  way : IsReplaying opened s now a.world b.world
  prompt : RunsPromptly opened a b

record RunHasRead (opened s : StoreNow) (now : ReaderNow) (a c : Outer) : Type 0 where
  between : World
  way : IsReplaying opened s now a.world between
  prompt : RunsPromptly opened a c

module _ (opened s : StoreNow) (now : ReaderNow) (x y z : Option World) (h i j : Option (List Answered)) (way : Told (IsReplaying opened s now) x y) (prompt : Told (RunsPromptly opened) (outer_of x h) (outer_of y i))
    (reads : Told (ReadsAsHeard now.ended now.unread) (outer_of y i) (outer_of z j)) where
  on_way : Told (RunOnWay opened s now) (outer_of x h) (outer_of y i)
  on_way = told_with (IsReplaying opened s now) (RunsPromptly opened) (RunOnWay opened s now) x y h i (λ a b w p. record { way = w; prompt = p }) way prompt

  has_read : Told (RunHasRead opened s now) (outer_of x h) (outer_of z j)
  has_read =
      told_then (RunOnWay opened s now) (ReadsAsHeard now.ended now.unread) (RunHasRead opened s now) (outer_of x h) (outer_of y i) (outer_of z j)
      (λ a b c on r. record { between = b.world; way = on.way; prompt = run_reads opened s now a b c on.way on.prompt r }) on_way reads

  pub told_run_reads : Told (RunsPromptly opened) (outer_of x h) (outer_of z j)
  told_run_reads = told_map (RunHasRead opened s now) (RunsPromptly opened) (outer_of x h) (outer_of z j) (λ a c r. r.prompt) has_read

  pub told_run_sends : (q : Option Outer) → Told (SendsOnBook s) (outer_of z j) q → Told (RunsPromptly opened) (outer_of x h) q
  told_run_sends q sends =
      told_then (RunHasRead opened s now) (SendsOnBook s) (RunsPromptly opened) (outer_of x h) (outer_of z j) q
      (λ a c d r t. run_sends opened s now r.between a c d r.way r.prompt t) has_read sends

-- ---- the whole run on a device

pub told_opens_silently : (x y : Option World) (h k : Option (List Answered)) → Told OpensGood x y → Told HearsNothing h k → Told (AsHeard []) (outer_of x h) (outer_of y k)
told_opens_silently x y h k good same = told_outer OpensGood HearsNothing (AsHeard []) opens_silently x y h k good same

pub told_unopened_prompt : (x y : Option World) (h k : Option (List Answered)) → Told OpensGood x y → Told HearsNothing h k → Told RepliesPromptly (outer_of x h) (outer_of y k)
told_unopened_prompt x y h k good same =
    told_map (AsHeard []) RepliesPromptly (outer_of x h) (outer_of y k) (λ a b p form seat rs stands. prompt_none (replay_owed form seat rs) a b p) (told_opens_silently x y h k good same)

-- the device was opened, and nothing was sent
record OpenedSilently (s : StoreNow) (a b : Outer) : Type 0 where
  opening : OpenedAs s a.world b.world
  silent : AsHeard [] a b

module _ (s : StoreNow) (x y : Option World) (h i : Option (List Answered)) (opened : Told (OpenedAs s) x y) (same : Told HearsNothing h i) where
  opened_silently : Told (OpenedSilently s) (outer_of x h) (outer_of y i)
  opened_silently =
      told_outer (OpenedAs s) HearsNothing (OpenedSilently s) (λ a b k l o e. record { opening = o; silent = opens_silently a b k l o.good e }) x y h i opened same

  -- what waits went out in part
  pub told_waited_prompt : (q : Option Outer) → Told SendsAsHeard (outer_of y i) q → Told RepliesPromptly (outer_of x h) q
  told_waited_prompt q sends =
      told_then (OpenedSilently s) SendsAsHeard RepliesPromptly (outer_of x h) (outer_of y i) q
      (λ a b c o p form seat rs stands. prompt_sends (replay_owed form seat rs) a b c (prompt_none (replay_owed form seat rs) a b o.silent) p) opened_silently sends

-- what waits went out, and then lines were taken
record WaitsSent (s : StoreNow) (b c : Outer) : Type 0 where
  says : Says (texts_pending s) b.world c.world
  sends : SendsAsHeard b c

record WaitsThenLines (s : StoreNow) (b d : Outer) : Type 0 where
  middle : Outer
  waited : WaitsSent s b middle
  runs : RunsPromptly s middle d

pub told_prompt : (s : StoreNow) (on_book : WaitsOnBook s) (x y z : Option World) (h i j : Option (List Answered)) (q : Option Outer) → Told (OpenedAs s) x y → Told HearsNothing h i
    → Told (Says (texts_pending s)) y z → Told SendsAsHeard (outer_of y i) (outer_of z j) → Told (RunsPromptly s) (outer_of z j) q → Told RepliesPromptly (outer_of x h) q
told_prompt s on_book x y z h i j q opened same says sends runs =
    told_then (OpenedSilently s) (WaitsThenLines s) RepliesPromptly (outer_of x h) (outer_of y i) q
    (λ a b d o w form seat rs stands.
    replies_promptly form seat rs s a b w.middle d o.opening stands o.silent (on_book rs (stands_opened form seat rs s a.world b.world o.opening stands).stands) w.waited.says w.waited.sends w.runs)
    (opened_silently s x y h i opened same)
    (told_then (WaitsSent s) (RunsPromptly s) (WaitsThenLines s) (outer_of y i) (outer_of z j) q (λ b c d t r. record { middle = c; waited = t; runs = r })
    (told_with (Says (texts_pending s)) SendsAsHeard (WaitsSent s) y z i j (λ b c t p. record { says = t; sends = p }) says sends) runs)
