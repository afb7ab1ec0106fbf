-- What a session has read when it is new, and when it hasn't failed.
use Rattle.std.proofs.Common.{Bool}
use Rattle.std.proofs.Common.{◌≡◌, ℕ, List, [], refl, sym, subst, arith}
use Rattle.gob_num.proofs.PublicLaws.{begins_prefix}
use Rattle.gob_num.specs.Unsigned.{IsUnsignedPrefix}
use Rattle.gob_types.specs.Base.{base_table}
use Rattle.gob_types.specs.Defined.{Defined, types}
use Rattle.gob_stream.specs.Bounds.{Bounds, within_trees}
use Rattle.gob_filled.specs.Stream.{FilledItem, no_more}
use Rattle.gob_go.specs.declared.stage.Stage.{Stage}
use Rattle.gob_go.specs.Machine.HasRead.{StageHasRead, in_count, StandsAfter, StandsSomewhere, IsUsable, has_failed}
use Rattle.gob_go.specs.Machine.HasRead.{stands_after}
use Rattle.gob_go.specs.Machine.SessionState.{SessionState}
use Rattle.gob_go.specs.Machine.Stages.{count_at}
use Rattle.gob_go.specs.Calls.Session.{HasFailed}

-- what it keeps is said by itself
pub stands_so : {keep : Bool} {s : SessionState} {items : List FilledItem} {bytes : List ℕ}
    → StandsAfter keep s items bytes → StandsAfter s.keeps s items bytes
stands_so {s = s} {items = items} {bytes = bytes} a = subst (λ k. StandsAfter k s items bytes) (sym a.kept) a

pub usable : {keep : Bool} {s : SessionState} {items : List FilledItem} {bytes : List ℕ}
    → StandsAfter keep s items bytes → IsUsable s
usable a = stands_after (stands_so a)

pub somewhere : {s : SessionState} → IsUsable s → ¬ HasFailed s → StandsSomewhere s
somewhere (has_failed e) n = absurd (n e)
somewhere (stands_after {items = items} {bytes = bytes} a) n = record { items = items; bytes = bytes; after = a }

no_bytes : IsUnsignedPrefix []
no_bytes = begins_prefix {bytes = []} tt

pub new_stands : {keep : Bool} {L : Bounds} {d : Defined} {first : Stage} → types d ≡ base_table → d.most ≡ L.types
    → first ≡ count_at 0
    → StandsAfter keep (record { limits = L; types = d; taken = 0; stage = first; keeps = keep }) [] []
new_stands {keep = keep} {L = L} {d = d} e m f = record {
  prefix = [];
  under_way = [];
  table = base_table;
  whole = refl;
  are_bytes = tt;
  stream = no_more;
  stage = subst (λ s. StageHasRead keep (within_trees L) base_table 0 (types d) s []) (sym f)
      (in_count [] e (record { begins = refl; ends = refl; bytes = refl; prefix = no_bytes; room = omega arith }));
  taken = refl;
  room = m;
  kept = refl;
}
