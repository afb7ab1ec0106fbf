-- What the forms and the spellings are called, and what to do with them.
use Rattle.std.specs.Prelude.{ℕ, List, [], ◌++◌, codes}
use Rattle.gob_forms.specs.declared.form.Form.{Form}
use Rattle.gob_forms.specs.declared.form.Form.TheVariants as form
use Rattle.gob_forms.specs.declared.spelling.Spelling.{Spelling}
use Rattle.gob_forms.specs.declared.spelling.Spelling.TheVariants as spelling

-- ---- forms
-- what people look at or run, and nothing for others
abbrev pub form_file_name : Form → List ℕ
form_file_name form.Png = codes "a PNG image"
form_file_name form.Jpeg = codes "a JPEG image"
form_file_name form.Gif = codes "a GIF image"
form_file_name form.Riff = codes "a RIFF file, as WebP and WAV are,"
form_file_name form.Pdf = codes "a PDF document"
form_file_name form.Elf = codes "an ELF program"
form_file_name form.Exe = codes "a program for Windows"
form_file_name form.MachO = codes "a program for macOS"
form_file_name form.Wasm = codes "a WebAssembly module"
form_file_name _ = []

-- what each of them is called
abbrev pub form_name : Form → List ℕ
form_name form.Gzip = codes "gzip"
form_name form.Zstd = codes "zstd"
form_name form.Bzip2 = codes "bzip2"
form_name form.Xz = codes "xz"
form_name form.Lzma = codes "lzma"
form_name form.Lz4 = codes "lz4"
form_name form.Zlib = codes "zlib"
form_name form.Snappy = codes "snappy"
form_name form.Zip = codes "zip"
form_name form.SevenZip = codes "7z"
form_name form.Tar = codes "tar"
form_name form.Ar = codes "an archive of ar"
form_name form.Sqlite = codes "a SQLite database"
form_name form.Bolt = codes "a bbolt database"
form_name form.Parquet = codes "a Parquet file"
form_name form.Avro = codes "an Avro file"
form_name form.GitPack = codes "a pack of git"
form_name form.Pickle = codes "Python's pickle"
form_name form.MessagePack = codes "MessagePack"
form_name form.Cbor = codes "CBOR"
form_name form.JavaObjects = codes "Java's serialized objects"
form_name form.Salted = codes "a file that OpenSSL encrypted"
form_name form.OpenPgp = codes "a file that OpenPGP encrypted"
form_name form.Utf16 = codes "text in UTF-16"
form_name form.Utf16Low = codes "text in UTF-16"
form_name form.Utf16High = codes "text in UTF-16"
form_name form.Marked = codes "the byte order mark of UTF-8"
form_name form = form_file_name form

-- for a file of another kind
abbrev pub other : List ℕ
other = codes "Get the file that holds the stream: this is another."

-- a command that gives what it holds, where IN is the file, or a sentence
abbrev pub form_step : Form → List ℕ
form_step form.Gzip = codes "gunzip -c IN | gob why"
form_step form.Zstd = codes "zstd -dc IN | gob why"
form_step form.Bzip2 = codes "bunzip2 -c IN | gob why"
form_step form.Xz = codes "xz -dc IN | gob why"
form_step form.Lzma = codes "xz --format=lzma -dc IN | gob why"
form_step form.Lz4 = codes "lz4 -dc IN | gob why"
form_step form.Zlib =
    codes "python3 -c 'import sys, zlib; sys.stdout.buffer.write(zlib.decompress(sys.stdin.buffer.read()))'"
    ++ codes " <IN | gob why"
form_step form.Snappy = codes "snzip -dc IN | gob why"
form_step form.Zip = codes "unzip -p IN | gob why"
form_step form.SevenZip = codes "7z x -so IN | gob why"
form_step form.Tar = codes "tar -xOf IN | gob why"
form_step form.Ar = codes "ar p IN | gob why"
form_step form.Png = other
form_step form.Jpeg = other
form_step form.Gif = other
form_step form.Riff = other
form_step form.Pdf = other
form_step form.Elf = other
form_step form.Exe = other
form_step form.MachO = other
form_step form.Wasm = other
form_step form.Sqlite = codes "sqlite3 IN .schema"
form_step form.Bolt = codes "bbolt buckets IN"
form_step form.Parquet = other
form_step form.Avro = other
form_step form.GitPack = other
form_step form.Pickle = codes "python3 -m pickletools IN"
form_step form.MessagePack = other
form_step form.Cbor = other
form_step form.JavaObjects = other
form_step form.Salted = codes "openssl enc -d -aes-256-cbc -pbkdf2 -in IN | gob why"
form_step form.OpenPgp = codes "gpg -d IN | gob why"
form_step form.Utf16 = codes "iconv -f UTF-16 -t UTF-8 IN | gob why"
form_step form.Utf16Low = codes "iconv -f UTF-16LE -t UTF-8 IN | gob why"
form_step form.Utf16High = codes "iconv -f UTF-16BE -t UTF-8 IN | gob why"
form_step form.Marked = codes "tail -c +4 IN | gob why"

-- ---- spellings
abbrev pub spelling_name : Spelling → List ℕ
spelling_name spelling.Base64 = codes "base64"
spelling_name spelling.UrlBase64 = codes "base64"
spelling_name spelling.Hex = codes "hexadecimal digits"
spelling_name spelling.Xxd = codes "a dump by xxd"
spelling_name spelling.Hexdump = codes "a dump by hexdump or od"
spelling_name spelling.Decimal = codes "a list of decimal numbers"
spelling_name spelling.Latin1 = codes "text in UTF-8, made of bytes that were taken for Latin-1"

-- the command that gives the bytes, where IN is the file
abbrev pub spelling_step : Spelling → List ℕ
spelling_step spelling.Base64 = codes "base64 -di IN | gob why"
spelling_step spelling.UrlBase64 = codes "tr -- '-_' '+/' <IN | base64 -di | gob why"
spelling_step spelling.Hex = codes "xxd -r -p IN | gob why"
spelling_step spelling.Xxd = codes "sed 's/^[^:]*: //; s/  .*//' IN | xxd -r -p | gob why"
spelling_step spelling.Hexdump = codes "sed 's/^[^ ]* *//; s/|.*//' IN | xxd -r -p | gob why"
spelling_step spelling.Decimal = codes "tr -c 0-9 ' ' <IN | xargs printf %02x | xxd -r -p | gob why"
spelling_step spelling.Latin1 = codes "iconv -f UTF-8 -t ISO-8859-1 IN | gob why"
