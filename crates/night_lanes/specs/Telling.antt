-- For the prover, and for callers.
-- The trouble that a record is, and where (words of this project's own).
use Rattle.std.specs.Prelude.{ℕ, Option, Some, None, option_map, slice_get}
use Rattle.night_lanes.specs.declared.hearing.Heard.{Heard}
use Rattle.night_lanes.specs.declared.hearing.Heard.TheVariants as heard
use Rattle.night_lanes.specs.declared.lane.Lane.{Lane}
use Rattle.night_lanes.specs.declared.open_calls.OpenCall.{OpenCall}
use Rattle.night_lanes.specs.declared.troubles.Trouble.{Trouble}
use Rattle.night_lanes.specs.declared.troubles.TroubleKind.{TroubleKind}
use Rattle.night_lanes.specs.declared.troubles.TroubleKind.TheVariants as kinds

-- a trouble of a lane, and of no call
abbrev pub of_lane : Lane → TroubleKind → Trouble
of_lane lane kind = record { client = Some lane.client; lane = Some lane.number; xid = None; call = None; kind = kind }

-- one with a transaction number that no open call has
abbrev pub of_number : Lane → ℕ → TroubleKind → Trouble
of_number lane xid kind = record { client = Some lane.client; lane = Some lane.number; xid = Some xid; call = None; kind = kind }

-- one of the open call at a place
abbrev pub of_call : Lane → ℕ → TroubleKind → Trouble
of_call lane place kind = record {
  client = Some lane.client;
  lane = Some lane.number;
  xid = option_map (λ (sent : OpenCall). sent.xid) (slice_get lane.pending.calls.items place);
  call = option_map (λ (sent : OpenCall). sent.number) (slice_get lane.pending.calls.items place);
  kind = kind;
}

-- the trouble that a record is; only an answer is none
abbrev pub trouble_in : Lane → Heard → Option Trouble
trouble_in lane (heard.Answer place reply) = None
trouble_in lane (heard.BadResult place at kind) = Some (of_call lane place (kinds.BadResult at kind))
trouble_in lane (heard.Refused place refusal) = Some (of_call lane place (kinds.Refused refusal))
trouble_in lane (heard.SecondReply xid) = Some (of_number lane xid kinds.SecondReply)
trouble_in lane (heard.Unknown xid) = Some (of_number lane xid kinds.UnknownReply)
trouble_in lane (heard.NoReply fault) = Some (of_lane lane (kinds.NotRpc fault))

-- the place of the open call whose reply a record is: no other record is noted
abbrev pub noted_at : Heard → Option ℕ
noted_at (heard.Answer place reply) = Some place
noted_at (heard.BadResult place at kind) = Some place
noted_at (heard.Refused place refusal) = Some place
noted_at other = None
