-- what is answered, its status and its text
use Rattle.std.specs.Prelude.{ℕ, ℤ, if◌then◌else◌, List, [], ◌∷◌, ◌++◌, Option, Some, None, codes, decimal}
use Rattle.std.specs.Fmt.{signed_decimal}
use Rattle.base_kit.specs.declared.status.Status.{Status}
use Rattle.base_kit.specs.declared.status.Status.TheVariants as status
use Rattle.cert_check.specs.declared.fault.Reject.{Reject}
use Rattle.cert_check.specs.declared.fault.Reject.TheVariants as reject
use Rattle.answer_text.specs.declared.answer.Verdict.{Verdict}
use Rattle.answer_text.specs.declared.answer.Verdict.TheVariants as verdict
use Rattle.answer_text.specs.Text.{answer_bytes}
use Rattle.tiresias_core.specs.Lines.{excess_line, refusal_line, refusal_status}
use Rattle.world_eval.specs.declared.evaluation.Evaluation.{Evaluation}
use Rattle.world_eval.specs.declared.evaluation.Evaluation.TheVariants as evaluation
use Rattle.tiresias_core.specs.declared.reply.Reply.{Reply}
use Rattle.tiresias_core.specs.declared.reply.Reply.TheVariants as reply

-- the status of an answer, by its verdict
abbrev pub verdict_status : Verdict → Status
verdict_status (verdict.Optimal objective worlds parts) = status.Done
verdict_status (verdict.FalseRow row) = status.Impossible
verdict_status (verdict.NoWorld part) = status.Impossible
verdict_status (verdict.Unfinished nodes parts) = status.Unfinished

-- the status of an evaluation: the world is possible and meets, or not
abbrev pub evaluation_status : Evaluation → Status
evaluation_status evaluation.NoWorld = status.Rejected
evaluation_status (evaluation.Told text met) = if met then status.Done else status.Rejected

-- the status of a reply
abbrev pub status_of : Reply → Status
status_of (reply.Refused why) = refusal_status why
status_of (reply.Answered answer) = verdict_status answer.verdict
status_of (reply.TooLarge told) = status.Size
status_of (reply.Accepted objective) = status.Done
status_of (reply.Rejected reason part node) = status.Rejected
status_of (reply.Evaluated told) = evaluation_status told

-- the words of a reason
abbrev pub reason_words : Reject → List ℕ
reason_words reject.Unfinished = codes "unfinished"
reason_words reject.WrongProgram = codes "wrong program"
reason_words reject.WrongWorld = codes "wrong world"
reason_words reject.WorldBreaks = codes "world breaks"
reason_words reject.WrongObjective = codes "wrong objective"
reason_words reject.RowHolds = codes "row holds"
reason_words reject.WrongParts = codes "wrong parts"
reason_words reject.BestDiffers = codes "best differs"
reason_words reject.WrongSplit = codes "wrong split"
reason_words reject.OpenNode = codes "open node"
reason_words reject.NotFixed = codes "not fixed"
reason_words reject.FixedBeats = codes "fixed beats"

-- the line of an answer that is accepted, with the objective of an optimal one
abbrev pub accepted_line : Option ℤ → List ℕ
accepted_line (Some objective) = (codes "accepted optimal " ++ signed_decimal objective) ++ 10 ∷ []
accepted_line None = codes "accepted impossible" ++ 10 ∷ []

-- the line of an answer that is not valid: the reason, the part and the node
abbrev pub rejected_line : Reject → ℕ → ℕ → List ℕ
rejected_line reason part node = (codes "rejected: " ++ reason_words reason ++ codes " " ++ decimal part ++ codes " " ++ decimal node) ++ 10 ∷ []

-- the line of an answer that has no world
abbrev pub no_world_line : List ℕ
no_world_line = codes "rejected: no world 0 0" ++ 10 ∷ []

-- the text of an evaluation
abbrev pub evaluation_text : Evaluation → List ℕ
evaluation_text evaluation.NoWorld = no_world_line
evaluation_text (evaluation.Told text met) = text

-- the text of a reply
abbrev pub text_of : Reply → List ℕ
text_of (reply.Refused why) = refusal_line why
text_of (reply.Answered answer) = answer_bytes answer
text_of (reply.TooLarge told) = excess_line told
text_of (reply.Accepted objective) = accepted_line objective
text_of (reply.Rejected reason part node) = rejected_line reason part node
text_of (reply.Evaluated told) = evaluation_text told
