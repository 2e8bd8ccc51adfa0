use mathlib.Core.List.{[]}
use mathlib.Core.Logic.{inl, inr}
use Rattle.frame.specs.Frame.{command, raise, lower}
use Rattle.frame.specs.declared.frame.Ask.TheVariants.{Command, Raise, Lower}
use Rattle.session.specs.Calls.{restart, box_frame, open_session, issue, resend, reopen, office_frame, issue_all, box_frames}
use Rattle.calls.specs.declared.Call.TheVariants.{Restart, BoxFrame, OpenSession, Issue, Resend, Reopen, OfficeFrame}
use Rattle.calls.specs.Theorems.{single, batch, frames, EveryCall}

pub every_call : EveryCall
every_call (inl (restart told)) = single (Restart (record { 0 = told })) [] 0
every_call (inl (box_frame bytes room)) = single BoxFrame bytes room
every_call (inr (open_session s room)) = single (OpenSession (record { 0 = s })) [] room
every_call (inr (issue (command k d) room)) = single (Issue (Command k)) d room
every_call (inr (issue (raise n) room)) = single (Issue (Raise n)) [] room
every_call (inr (issue (lower n) room)) = single (Issue (Lower n)) [] room
every_call (inr (resend n room)) = single (Resend (record { 0 = n })) [] room
every_call (inr (reopen room)) = single Reopen [] room
every_call (inr (office_frame bytes)) = single OfficeFrame bytes 0
every_call (inr (issue_all orders bytes room)) = batch orders bytes room
every_call (inl (box_frames lengths bytes room)) = frames lengths bytes room
