-- The types of Go's library that encode themselves, and their packages. (Go's documentation of math/big, net/netip,
-- net/url and time; docs/FORMAT.md, Types as source: this project's own.)
use Rattle.std.specs.Prelude.{List, [], ◌∷◌, ◌++◌, ℕ, Bool, true, false, if◌then◌else◌, codes, Option, Some, None}
use Rattle.std.specs.Str.{bytes_eq}
use Rattle.std.specs.List.{list_any}
use Rattle.gob_types.specs.declared.kind.Kind.{Kind}
use Rattle.gob_types.specs.declared.kind.Kind.TheVariants as kind
use Rattle.gob_types.specs.declared.kind.Marshal.{Marshal}
use Rattle.gob_types.specs.declared.kind.Marshal.TheVariants as marshal
use Rattle.gob_types.specs.declared.kind.Shape.{Shape}
use Rattle.gob_source.specs.declared.library.Package.{Package}
use Rattle.gob_source.specs.declared.library.Package.TheVariants as packages

abbrev pub is_one_of : List ℕ → List (List ℕ) → Bool
is_one_of name words = list_any (λ word. bytes_eq word name) words

-- the package whose type has the name and encodes itself in this way, where there is one
abbrev pub package_of : List ℕ → Marshal → Option Package
package_of name marshal.Gob =
    if is_one_of name (codes "Time" ∷ []) then Some packages.Time else
    if is_one_of name (codes "Int" ∷ codes "Float" ∷ codes "Rat" ∷ []) then Some packages.Big else None
package_of name marshal.Binary =
    if is_one_of name (codes "URL" ∷ []) then Some packages.Url else
    if is_one_of name (codes "Addr" ∷ codes "AddrPort" ∷ codes "Prefix" ∷ []) then Some packages.Netip else None
package_of name marshal.Text = None

abbrev pub kind_package : List ℕ → Kind → Option Package
kind_package name (kind.Opaque m) = package_of name m
kind_package name _ = None

abbrev pub shape_package : Shape → Option Package
shape_package s = kind_package s.name s.kind

-- the name of a package, and the path by which it is imported
abbrev pub package_name : Package → List ℕ
package_name packages.Big = codes "big"
package_name packages.Netip = codes "netip"
package_name packages.Url = codes "url"
package_name packages.Time = codes "time"

abbrev pub package_path : Package → List ℕ
package_path packages.Big = codes "math/big"
package_path packages.Netip = codes "net/netip"
package_path packages.Url = codes "net/url"
package_path packages.Time = codes "time"

abbrev pub is_package : Package → Package → Bool
is_package packages.Big packages.Big = true
is_package packages.Netip packages.Netip = true
is_package packages.Url packages.Url = true
is_package packages.Time packages.Time = true
is_package _ _ = false

abbrev pub is_of_package : Package → Option Package → Bool
is_of_package p None = false
is_of_package p (Some q) = is_package p q

-- the type as Go source names it
abbrev pub library_name : Package → List ℕ → List ℕ
library_name p name = package_name p ++ (codes "." ++ name)
