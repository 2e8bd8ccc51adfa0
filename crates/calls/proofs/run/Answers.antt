use Rattle.calls.proofs.Laws.{cab_runs, office_runs, restart_runs, taken_runs, refused_runs}
use Rattle.calls.proofs.run.Goals as goal

pub returns-in-Restart : goal.returns-in-Restart
returns-in-Restart c =
    rw c.in-Restart.is (restart_runs c.args.ends c.silent.result _ _ (rw c.restarted.ensures at c.silent.ensures))

pub returns-in-BoxFrame : goal.returns-in-BoxFrame
returns-in-BoxFrame c =
    rw c.in-BoxFrame.is (cab_runs c.args.ends c.at_cab.result _ c.frame_in.result _ _ c.frame_in.ensures c.at_cab.ensures)

pub returns-in-OpenSession : goal.returns-in-OpenSession
returns-in-OpenSession c =
    rw c.in-OpenSession.is
    (office_runs c.args.ends c.at_office.result _ c.before.before.before.«open».result _ _ c.before.before.before.«open».ensures c.at_office.ensures)

pub returns-in-Issue : goal.returns-in-Issue
returns-in-Issue c =
    rw c.in-Issue.is
    (office_runs c.args.ends c.at_office-in-Issue.result _ c.issue.result _ _ c.issue.ensures c.at_office-in-Issue.ensures)

pub returns-in-Resend : goal.returns-in-Resend
returns-in-Resend c =
    rw c.in-Resend.is
    (office_runs c.args.ends c.at_office-in-Resend.result _ c.resend.result _ _ c.resend.ensures c.at_office-in-Resend.ensures)

pub returns-in-Reopen : goal.returns-in-Reopen
returns-in-Reopen c =
    rw c.in-Reopen.is
    (office_runs c.args.ends c.at_office-in-Reopen.result _ c.reopen.result _ _ c.reopen.ensures c.at_office-in-Reopen.ensures)

pub returns-in-Ok : goal.returns-in-Ok
returns-in-Ok c =
    rw c.in-OfficeFrame.is
    (taken_runs c.args.ends c.silent-in-Ok.result _ _ c.frame_in-in-OfficeFrame.result _ c.frame_in-in-OfficeFrame.ensures c.in-Ok.is c.silent-in-Ok.ensures)

pub returns-in-Err : goal.returns-in-Err
returns-in-Err c =
    rw c.in-OfficeFrame.is
    (refused_runs c.args.ends c.refused.result _ _ c.frame_in-in-OfficeFrame.result _ c.frame_in-in-OfficeFrame.ensures c.in-Err.is c.refused.ensures)
