-- What inputs begin with that are no streams. (RFC 1952, gzip; RFC 8878, zstd; RFC 1950, zlib; RFC 2083, PNG; POSIX,
-- ustar; the formats of the others; RFC 3629, the mark of UTF-8.)
use Rattle.std.specs.Prelude.{◌≡◌, ◌⊎◌, ℕ, List, [], ◌∷◌, ◌++◌, length, Option, Some, None, codes}
use Rattle.gob_forms.specs.declared.form.Form.{Form}
use Rattle.gob_forms.specs.declared.form.Form.TheVariants as form
use Rattle.gob_forms.specs.declared.form.Mark.{Mark}

-- bytes by which a form is known, and the offset at which they stand
pub record FormMark : Type 0 where
  pub form : Form
  pub at : ℕ
  pub bytes : List ℕ

abbrev mark : Form → (at : ℕ) → (bytes : List ℕ) → FormMark
mark form at bytes = record { form = form; at = at; bytes = bytes }

-- the one of a row of the table
abbrev pub mark_in : Mark → FormMark
mark_in row = record { form = row.form; at = row.at; bytes = row.bytes.now }

-- the mark stands in the bytes
pub record Stands (m : FormMark) (front : List ℕ) : Type 0 where
  pub before : List ℕ
  pub rest : List ℕ
  pub offset : length before ≡ m.at
  pub whole : front ≡ before ++ (m.bytes ++ rest)

-- the form of the first of the marks that stands there, or none where none does
abbrev pub IsFirstForm : List FormMark → (front : List ℕ) → Option Form → Type 0
IsFirstForm [] front found = found ≡ None
IsFirstForm (m ∷ ms) front found =
    (Stands m front × (found ≡ Some m.form)) ⊎ (¬ Stands m front × IsFirstForm ms front found)

abbrev pub marks : List FormMark
marks =
    mark form.Gzip 0 (31 ∷ 139 ∷ []) ∷
    mark form.Zstd 0 (40 ∷ 181 ∷ 47 ∷ 253 ∷ []) ∷
    mark form.Bzip2 0 (codes "BZh") ∷
    mark form.Xz 0 (253 ∷ 55 ∷ 122 ∷ 88 ∷ 90 ∷ 0 ∷ []) ∷
    mark form.Lzma 0 (93 ∷ 0 ∷ 0 ∷ []) ∷
    mark form.Lz4 0 (4 ∷ 34 ∷ 77 ∷ 24 ∷ []) ∷
    mark form.Zlib 0 (120 ∷ 1 ∷ []) ∷
    mark form.Zlib 0 (codes "x^") ∷
    mark form.Zlib 0 (120 ∷ 156 ∷ []) ∷
    mark form.Zlib 0 (120 ∷ 218 ∷ []) ∷
    mark form.Snappy 0 (255 ∷ 6 ∷ 0 ∷ 0 ∷ 115 ∷ 78 ∷ 97 ∷ 80 ∷ 112 ∷ 89 ∷ []) ∷
    mark form.Zip 0 (80 ∷ 75 ∷ 3 ∷ 4 ∷ []) ∷
    mark form.SevenZip 0 (55 ∷ 122 ∷ 188 ∷ 175 ∷ 39 ∷ 28 ∷ []) ∷
    mark form.Tar 257 (codes "ustar") ∷
    mark form.Ar 0 (33 ∷ 60 ∷ 97 ∷ 114 ∷ 99 ∷ 104 ∷ 62 ∷ 10 ∷ []) ∷
    mark form.Png 0 (137 ∷ 80 ∷ 78 ∷ 71 ∷ 13 ∷ 10 ∷ 26 ∷ 10 ∷ []) ∷
    mark form.Jpeg 0 (255 ∷ 216 ∷ 255 ∷ 219 ∷ 0 ∷ []) ∷
    mark form.Jpeg 0 (255 ∷ 216 ∷ 255 ∷ 224 ∷ 0 ∷ 16 ∷ 74 ∷ 70 ∷ 73 ∷ 70 ∷ []) ∷
    mark form.Jpeg 6 (69 ∷ 120 ∷ 105 ∷ 102 ∷ 0 ∷ 0 ∷ []) ∷
    mark form.Gif 0 (codes "GIF8") ∷
    mark form.Riff 0 (codes "RIFF") ∷
    mark form.Pdf 0 (codes "%PDF-") ∷
    mark form.Elf 0 (127 ∷ 69 ∷ 76 ∷ 70 ∷ []) ∷
    mark form.Exe 0 (codes "MZ") ∷
    mark form.MachO 0 (207 ∷ 250 ∷ 237 ∷ 254 ∷ []) ∷
    mark form.Wasm 0 (0 ∷ 97 ∷ 115 ∷ 109 ∷ []) ∷
    mark form.Sqlite 0 (83 ∷ 81 ∷ 76 ∷ 105 ∷ 116 ∷ 101 ∷ 32 ∷ 102 ∷ 111 ∷ 114 ∷ 109 ∷ 97 ∷ 116 ∷ 32 ∷ 51 ∷ 0 ∷ []) ∷
    mark form.Bolt 16 (237 ∷ 218 ∷ 12 ∷ 237 ∷ []) ∷
    mark form.Parquet 0 (codes "PAR1") ∷
    mark form.Avro 0 (79 ∷ 98 ∷ 106 ∷ 1 ∷ []) ∷
    mark form.GitPack 0 (codes "PACK") ∷
    mark form.Pickle 0 (128 ∷ 2 ∷ []) ∷
    mark form.Pickle 0 (128 ∷ 3 ∷ []) ∷
    mark form.Pickle 0 (128 ∷ 4 ∷ 149 ∷ []) ∷
    mark form.Pickle 0 (128 ∷ 5 ∷ 149 ∷ []) ∷
    mark form.Cbor 0 (217 ∷ 217 ∷ 247 ∷ []) ∷
    mark form.JavaObjects 0 (172 ∷ 237 ∷ 0 ∷ 5 ∷ []) ∷
    mark form.Salted 0 (codes "Salted__") ∷
    mark form.OpenPgp 0 (140 ∷ 13 ∷ 4 ∷ []) ∷
    mark form.Marked 0 (239 ∷ 187 ∷ 191 ∷ []) ∷ []

-- so it is of the table
pub record IsFormAt (front : List ℕ) (found : Option Form) : Type 0 where
  pub first : IsFirstForm marks front found
