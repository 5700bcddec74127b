-- what stood at first is read, and is there
use Rattle.replay_law.specs.Run.{state_after}
use Rattle.tree_nodes.proofs.Chains.{value_of}
use Rattle.tree_laws.proofs.Later.{first_bytes_are_read}
use Rattle.tree_laws.proofs.Sparing.{what_stood_stays}
use Rattle.cut_check.specs.Places.{bindings_of}
use Rattle.witness_check.specs.Run.{steps_of, next_of, base_of}
use Rattle.verdict_laws.specs.Kept.{order_seen}
use Rattle.verdict_laws.specs.Stood.{WhatStoodIsRead, WhatStoodIsKept}
use Rattle.verdict_laws.proofs.Numbers.{from_one}
use Rattle.verdict_laws.proofs.Seen.{seen_runs}

pub stood_is_read : WhatStoodIsRead
stood_is_read history plan ahead behind era bytes read answer byte is witness eras first =
    first_bytes_are_read history.head.profile history.head.start (bindings_of history.head.root plan.binds) (steps_of history.calls (order_seen ahead era)) bytes read answer byte is
    (seen_runs history plan ahead behind era witness eras) (from_one history.calls (order_seen ahead era)) first

pub stood_is_kept : WhatStoodIsKept
stood_is_kept history plan ahead behind era k o path is witness eras listed at spared =
    let steps = steps_of history.calls (order_seen ahead era) in
    let last = value_of (state_after (next_of history plan) (base_of history) steps) (seen_runs history plan ahead behind era witness eras) in
    (last.0, last.1, what_stood_stays history.head.profile history.head.start (bindings_of history.head.root plan.binds) steps last.0 k o path is listed at last.1 spared)
