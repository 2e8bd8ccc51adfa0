-- Refinement: each call turns the ends as the history's rules turn the history, with the same answer.
use Prim.Native.Nat.{ℕ}
use mathlib.Core.Path.{◌≡◌, sym, ap, ◌∙◌, subst}
use mathlib.Core.List.{List, Memᴰ}
use mathlib.Core.Option.{some-injective}
use lib.Dec.{eqb}
use Rattle.bus.proofs.Settles.{fresh_ready}
use Rattle.frame.specs.Frame.{Frame}
use Rattle.link.specs.Encoding.{Valid}
use Rattle.judging.specs.declared.End.TheVariants.{Box}
use Rattle.judging.specs.Decoding.{a_frame, decode}
use Rattle.judging.specs.Theorems.{reader}
use Rattle.judging.specs.View.{frame_read}
use Rattle.session.specs.Calls.{BoxCall, restart, box_frame, box_frames, Call, at_box, at_office, answer_of, Ends, first_ends, box_rules, ends_rules, Log, PermittedAtBox, Permitted}
use Rattle.session.specs.History.{History, first_history, rules}
use Rattle.session.proofs.Alike.{OutcomesAlike, cond_both}
use Rattle.session.proofs.BoxAlike.{CabAlike, closed, FramesValid, box_alike}
use Rattle.session.proofs.Invariant.{Safe, request_reader}
use Rattle.session.proofs.OfficeAlike.{OfficeAlike, first_alike, office_alike}
use Rattle.session.proofs.Tools.{Decodes, decoded_at}

pub record EndsAlike (e : Ends) (h : History) : Type 0 where
  pub cab : CabAlike e.cab h.box
  pub offices : (i : ℕ) → OfficeAlike (e.offices i) (h.offices i)

pub first_ends_alike : EndsAlike first_ends first_history
first_ends_alike = record { cab = closed fresh_ready; offices = λ _. first_alike }

-- what was written by an office is valid
said_valid : (P : Frame → Type 0) → ((f : Frame) → P f → reader f ≡ Box) → (bytes : List ℕ) → Decodes P bytes → (f : Frame) → decode Box bytes ≡ a_frame f → Valid f
said_valid P meant bytes said f e = subst Valid (some-injective said.frame f (ap frame_read (sym (decoded_at Box meant said) ∙ e))) said.valid

module _ (e : Ends) (h : History) (a : EndsAlike e h) (l : Log) (safe : Safe h l) where
  was_valid : (bytes : List ℕ) → Memᴰ bytes l.from_offices → (f : Frame) → decode Box bytes ≡ a_frame f → Valid f
  was_valid bytes m = said_valid _ request_reader bytes (safe.requests bytes m)

  frames_valid : (c : BoxCall) → PermittedAtBox l c (answer_of (box_rules e.cab c)) → FramesValid e.cab c
  frames_valid (restart told) _ = tt
  frames_valid (box_frame bytes room) permitted = was_valid bytes permitted
  frames_valid (box_frames lengths bytes room) permitted = λ judged f m. was_valid f (permitted judged f m)

  pub call_alike : (c : Call) → Permitted l c (answer_of (ends_rules e c)) → OutcomesAlike EndsAlike (ends_rules e c) (rules h c)
  call_alike (at_box c) permitted =
      let t = box_alike a.cab c (frames_valid c permitted) in
      record { states = record { cab = t.states; offices = a.offices }; same_refusal = t.same_refusal; same_parts = t.same_parts }
  call_alike (at_office i c) permitted =
      let t = office_alike (a.offices i) c in
      record {
        states = record { cab = a.cab; offices = λ j. cond_both OfficeAlike (eqb i j) (λ _. t.states) (λ _. a.offices j) };
        same_refusal = t.same_refusal;
        same_parts = t.same_parts;
      }
