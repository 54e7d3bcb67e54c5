use Rattle.iss_halves.proofs.Standings.{turns_keep, turns_go_on, turn_ends_here, appends_keep, appends_go_on, turned_append_good, free_is_room, turn_has_room}
use Rattle.iss_halves.proofs.laws.turns_and_appends_keep.Goals as goal

pub returns-clause-keep : goal.returns-clause-keep
returns-clause-keep c = turns_keep

pub returns-clause-go_on : goal.returns-clause-go_on
returns-clause-go_on c = turns_go_on

pub returns-clause-ends : goal.returns-clause-ends
returns-clause-ends c = turn_ends_here

pub returns-clause-append : goal.returns-clause-append
returns-clause-append c = appends_keep

pub returns-clause-append_on : goal.returns-clause-append_on
returns-clause-append_on c = appends_go_on

pub returns-clause-both : goal.returns-clause-both
returns-clause-both c = turned_append_good

pub returns-clause-free : goal.returns-clause-free
returns-clause-free c = free_is_room

pub returns-clause-room : goal.returns-clause-room
returns-clause-room c = turn_has_room
