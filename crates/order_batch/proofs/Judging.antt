-- What the two tests of a batch decide.
use Prim.Native.Nat.{ℕ}
use mathlib.Core.Path.{◌≡◌, refl}
use mathlib.Core.Bool.{Bool, true, false, cond}
use mathlib.Core.List.{List}
use lib.ListN.{length}
use lib.Dec.{ltb}
use borrow.Author.Tests.{ltb-false}
use Rattle.base.specs.Refusal.{plain}
use Rattle.outcome.specs.declared.BatchOrder.{BatchOrder}
use Rattle.outcome.specs.Batch.{batch_limit, data_lengths, changes, fits, refused_whole}
use Rattle.session.specs.declared.Office.{Office}
use Rattle.session.specs.Office.{issue_each, issue_all}
use Rattle.session.proofs.Tools.{impossible}
use Rattle.order_batch.specs.View.{batch_fits, Fitting}

both_tests : {A : Type 0} (many fit : Bool) (a b : A) → cond many b (cond fit a b) ≡ cond (cond many false fit) a b
both_tests true fit a b = refl
both_tests false fit a b = refl

module _ (orders : List BatchOrder) (bytes : List ℕ) where
  pub fitting : batch_fits orders (length bytes) ≡ true → Fitting orders bytes
  unfolding batch_fits
  fitting = by_count (ltb batch_limit (length orders)) refl
    where
      by_count : (many : Bool) → ltb batch_limit (length orders) ≡ many → cond many false (fits (data_lengths orders) (length bytes)) ≡ true → Fitting orders bytes
      by_count true many e = impossible e
      by_count false few e = record { few = ltb-false batch_limit (length orders) few; data_fit = e }

  module _ (o : Office) (room : ℕ) where
    by_tests : issue_all o orders bytes room ≡ cond (batch_fits orders (length bytes)) (issue_each o (changes orders bytes) room) (refused_whole o (plain 2))
    unfolding issue_all batch_fits
    by_tests = both_tests (ltb batch_limit (length orders)) (fits (data_lengths orders) (length bytes)) _ _

    pub when_refused : batch_fits orders (length bytes) ≡ false → issue_all o orders bytes room ≡ refused_whole o (plain 2)
    when_refused e = rw (by_tests, e)

    pub when_fitting : batch_fits orders (length bytes) ≡ true → issue_all o orders bytes room ≡ issue_each o (changes orders bytes) room
    when_fitting e = rw (by_tests, e)
