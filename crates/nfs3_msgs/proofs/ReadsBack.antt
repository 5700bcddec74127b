-- What is written is read back.
use Rattle.std.proofs.Common.{◌≡◌, Ok}
use Rattle.xdr_records.proofs.Laws.{all_again}
use Rattle.nfs3_types.specs.declared.calls.NfsCall.{NfsCall}
use Rattle.nfs3_types.specs.declared.replies.NfsReply.{NfsReply}
use Rattle.nfs3_values.specs.Told.{kind_of}
use Rattle.nfs3_types.specs.Procedures.{procedure_called, procedure_answered}
use Rattle.nfs3_msgs.specs.Messages.{arguments, results, arguments_of, result_of, arguments_text, result_text}
use Rattle.nfs3_msgs.specs.Fits.{CallFits, ReplyFits}
use Rattle.nfs3_msgs.specs.SpelledMessages.{call_spelled, reply_spelled}

pub call_reads_back : (call : NfsCall) → CallFits call → arguments_of (procedure_called call) (arguments_text call) ≡ Ok call
call_reads_back call fits = all_again kind_of (arguments (procedure_called call)) (arguments_text call) call (call_spelled call fits)

pub reply_reads_back : (reply : NfsReply) → ReplyFits reply → result_of (procedure_answered reply) (result_text reply) ≡ Ok reply
reply_reads_back reply fits = all_again kind_of (results (procedure_answered reply)) (result_text reply) reply (reply_spelled reply fits)
