-- The builders of this crate: which events each has received, and what it makes of them.
-- (docs/LIBRARY.md, Events.)
use Rattle.std.specs.Prelude.{◌≡◌}
use Rattle.gob_value.specs.View.{view}
use Rattle.gob_value.specs.declared.value.Value.{Value}
use Rattle.gob_read.specs.Building.{Building}
use Rattle.gob_read.specs.Counts.{AreCountsOfEvents, AreCountsOf}
use Rattle.gob_read.specs.Machine.Stack.{work_of}
use Rattle.gob_read.specs.Machine.Received.{AreBuilt}
use Rattle.gob_read.specs.declared.check_builder.CheckBuilder.{CheckBuilder}
use Rattle.gob_read.specs.declared.check_builder.Counts.{Counts}
use Rattle.gob_read.specs.declared.skip_builder.SkipBuilder.{SkipBuilder}
use Rattle.gob_read.specs.declared.tree_builder.TreeBuilder.{TreeBuilder}

abbrev pub tree_building : Building TreeBuilder Value 1000
tree_building = record {
  received = λ builder us. AreBuilt (work_of builder.work) builder.held us;
  means = λ value v. view value ≡ v;
}

abbrev pub check_building : Building CheckBuilder Counts 65536
check_building = record {
  received = λ builder us. AreCountsOfEvents builder.counts us;
  means =
      λ counts v. AreCountsOf counts v;
}

-- any list of events leaves it as it is
abbrev pub skip_building : Building SkipBuilder (Unit {0}) 65536
skip_building = record { received = λ builder us. Unit {0}; means = λ out v. Unit {0} }
