use Rattle.judging_commands.proofs.Missing.{not_found, out_of_turns, out_of_time}
use Rattle.judging_commands.proofs.search.search_to_json.Goals as goal

pub returns-in-Ok-clause-refused : goal.returns-in-Ok-clause-refused
returns-in-Ok-clause-refused g c = λ fault first. absurd (c.in-Ok.ensures.refused fault first)

pub returns-in-Err-NotFound-clause-refused : goal.returns-in-Err-NotFound-clause-refused
returns-in-Err-NotFound-clause-refused g c = λ fault first.
    absurd (not_found c.in-Err-NotFound.field-0 c.in-Err-NotFound.field-0-is (c.in-Err-NotFound.ensures.refused fault first))

pub returns-in-Err-OutOfTurns-clause-refused : goal.returns-in-Err-OutOfTurns-clause-refused
returns-in-Err-OutOfTurns-clause-refused g c = λ fault first.
    absurd (out_of_turns c.in-Err-OutOfTurns.field-0 c.in-Err-OutOfTurns.field-0-is (c.in-Err-OutOfTurns.ensures.refused fault first))

pub returns-in-Err-OutOfTime-clause-refused : goal.returns-in-Err-OutOfTime-clause-refused
returns-in-Err-OutOfTime-clause-refused g c = λ fault first.
    absurd (out_of_time c.in-Err-OutOfTime.field-0 c.in-Err-OutOfTime.field-0-is (c.in-Err-OutOfTime.ensures.refused fault first))

pub returns-in-Ok-clause-found : goal.returns-in-Ok-clause-found
returns-in-Ok-clause-found g c = λ zero.
    let told = c.tell_found.ensures.found zero in
    (c.in-Ok.text.items, told.0, c.in-Ok.ensures.found, told.1)
