-- The lengths of the data of a batch, one more and all.
use Prim.Native.Nat.{ℕ, ◌+◌, ◌<◌, ◌≤◌}
use native.Mathlib.Numerals.{add-one}
use mathlib.Core.Path.{◌≡◌, ◌∙◌}
use mathlib.Core.List.{List}
use lib.ListN.{length, get_or, take, set, length-map, get_or-map}
use lib.Seq.{take_all, take-suc, take-suc-set}
use Rattle.outcome.specs.declared.BatchOrder.{BatchOrder}
use Rattle.outcome.specs.Batch.{data_lengths}

abbrev len_of : BatchOrder → ℕ
len_of o = o.len

module _ (orders : List BatchOrder) (lengths : List ℕ) (i : ℕ) (told : take i lengths ≡ take i (data_lengths orders)) where
  pub lengths_more : (d : BatchOrder) → i < length orders → i < length lengths → take (i + 1) (set lengths i (get_or orders i d).len) ≡ take (i + 1) (data_lengths orders)
  lengths_more d h h' =
      let within : i < length (data_lengths orders) = rw (length-map orders len_of) h in
      rw (add-one, take-suc-set lengths i (get_or orders i d).len h', told, take-suc (data_lengths orders) i d.len within, get_or-map len_of orders i d)

  pub lengths_all : length orders ≤ i → take i lengths ≡ data_lengths orders
  lengths_all h = told ∙ take_all i (data_lengths orders) (rw (length-map orders len_of) h)
