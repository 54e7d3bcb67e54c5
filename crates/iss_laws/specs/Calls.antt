-- Each call to the gateway is opened once and closed at most once. It has one notice of the method void exactly if it failed or was
-- abandoned, and no other notice names it. Nothing closes or names a call that wasn't opened, and a void notice names one. Each closing
-- as funded or partly funded has a post of its own, the first after it and in its record. It pays the call's amount or the part from the
-- gateway to its user. No other post comes from the gateway. A part is less than its call's amount, and its call permits one.
use Rattle.std.specs.Prelude.{ℕ, Bool, true, false, ◌&&◌, ◌==◌, nat_le, List, fold, Option, Some, None, is_none, is_some, if◌then◌else◌}
use Rattle.std.specs.List.{list_all}
use Rattle.iss_model.specs.declared.call.CallId.{CallId}
use Rattle.iss_model.specs.declared.entry.Row.{Row}
use Rattle.iss_model.specs.declared.entry.Entry.{Entry}
use Rattle.iss_model.specs.declared.entry.Entry.TheVariants as entry
use Rattle.iss_model.specs.rules.Activity.{CallNow}
use Rattle.iss_model.specs.rules.Facts.{Facts, call_in}
use Rattle.iss_model.specs.rules.Histories.{History, history_facts}
use Rattle.iss_laws.specs.CallEntries.{closes, is_void, is_void_method, names_call, opens, voids}
use Rattle.iss_laws.specs.Pairs.{Pairing, is_paired, paired, pairing_after}
use Rattle.iss_laws.specs.Tests.{times}

-- 1 if a test holds, and else 0
abbrev pub one_where : Bool → ℕ
one_where b = if b then 1 else 0

-- a call stands once in the rows, and its notices
abbrev pub stands_once : List Row → CallNow → Bool
stands_once rows c =
    let number = c.opened.call.0 in
    times (opens number) rows == 1
    && nat_le (times (closes number) rows) 1
    && times (voids number) rows == one_where (is_void c.how)
    && times (names_call number) rows == one_where (is_void c.how)

-- it is a call that was opened
abbrev pub is_opened : Facts → Option CallId → Bool
is_opened f None = false
is_opened f (Some call) = is_some (call_in f call.0)

-- what an entry closes was opened, and so was what a void notice names; another notice names no call
abbrev pub is_of_calls : Facts → Entry → Bool
is_of_calls f (entry.Closed call how) = is_opened f (Some call)
is_of_calls f (entry.Notice notice) = if is_void_method notice.method then is_opened f notice.call else is_none notice.call
is_of_calls f _ = true

-- each call stands once, and no other is closed or named
abbrev pub each_stands_once : History → Bool
each_stands_once h =
    let f = history_facts h in list_all (stands_once h.rows) f.calls && list_all (λ row. is_of_calls f row.entry) h.rows

-- how closings that fund and posts come in pairs in rows
abbrev pub pairing_of : Facts → List Row → Pairing
pairing_of f rows = fold (λ so_far row. pairing_after f row.number so_far row.entry) paired rows

-- each closing that funds has its post, and no other post comes from the gateway
abbrev pub are_paired : Facts → List Row → Bool
are_paired f rows = is_paired (pairing_of f rows)

-- each call once, and its post
abbrev pub each_call_once : History → Bool
each_call_once h = each_stands_once h && are_paired (history_facts h) h.rows
