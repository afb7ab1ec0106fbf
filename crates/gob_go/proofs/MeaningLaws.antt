-- What was given stands for the same items under a table that has grown.
use Rattle.std.proofs.Common.{List, [], ◌∷◌, ◌++◌}
use Rattle.gob_types.specs.declared.id.TypeId.{TypeId}
use Rattle.gob_types.specs.Table.{Table}
use Rattle.gob_types.proofs.PublicLaws.{Keeps}
use Rattle.gob_value.proofs.PublicLaws.{top_on}
use Rattle.gob_filled.specs.Filled as spelled
use Rattle.gob_filled.specs.Stream.{FilledItem}
use Rattle.gob_go.specs.Meaning.{IsFilled, is_filled, AreFillings, no_fillings, filling_then, ItemMeans}
use Rattle.gob_go.specs.Meaning.{means_definition, means_value, ItemsMean, mean_none, mean_more}
use Rattle.gob_go.specs.declared.filled.Filled.{Filled}
use Rattle.gob_go.specs.declared.filled.Filling.{Filling}
use Rattle.gob_go.specs.declared.item.GoItem.{GoItem}

mutual
  pub filled_on : {T U : Table} {t : TypeId} {kept : Filled} {w : spelled.Filled} → Keeps T U → IsFilled T t kept w
      → IsFilled U t kept w
  filled_on k (is_filled s f) = is_filled (top_on k s) (fillings_on k f)

  pub fillings_on : {T U : Table} {kept : List Filling} {fs : spelled.Fillings} → Keeps T U → AreFillings T kept fs
      → AreFillings U kept fs
  fillings_on k no_fillings = no_fillings
  fillings_on k (filling_then w f) = filling_then (filled_on k w) (fillings_on k f)

pub means_on : {T U : Table} {given : GoItem} {i : FilledItem} → Keeps T U → ItemMeans T given i → ItemMeans U given i
means_on k means_definition = means_definition
means_on k (means_value w) = means_value (filled_on k w)

pub all_mean_on : {T U : Table} {given : List GoItem} {items : List FilledItem} → Keeps T U → ItemsMean T given items
    → ItemsMean U given items
all_mean_on k mean_none = mean_none
all_mean_on k (mean_more m ms) = mean_more (means_on k m) (all_mean_on k ms)

-- and one item more
pub one_means_more : {T : Table} {given : List GoItem} {items : List FilledItem} {one : GoItem} {i : FilledItem}
    → ItemsMean T given items → ItemMeans T one i → ItemsMean T (given ++ one ∷ []) (items ++ i ∷ [])
one_means_more mean_none m = mean_more m mean_none
one_means_more (mean_more n ms) m = mean_more n (one_means_more ms m)
