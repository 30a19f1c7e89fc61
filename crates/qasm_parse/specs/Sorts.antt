-- The terminal of a token.
use Rattle.std.specs.Prelude.{ℕ, List, Bool, bytes_eq, codes, if◌then◌else◌, ◌&&◌, ◌||◌, nat_le, get_or, slice_range, ◌==◌, map, ◌<◌, ◌≤◌, length}
use Rattle.std.specs.List.{list_all}
use Rattle.qasm_parse.specs.declared.sort.Sort.{Sort}
use Rattle.qasm_parse.specs.declared.sort.Sort.TheVariants.{OpenQasm, Include, Qreg, Creg, Gate, Opaque, Barrier, Outside, Universal, Cx, Pi, Function, Id, Other, Semicolon, Comma, Open, Close, OpenBracket, CloseBracket, OpenBrace, CloseBrace, Plus, Minus, Times, Over, Power, Whole, Decimal, Library, Text as TextSort}
use Rattle.qasm_lex.specs.declared.types.Token.{Token}
use Rattle.qasm_lex.specs.declared.types.Kind.{Kind}
use Rattle.qasm_lex.specs.declared.types.Kind.TheVariants.{Word, Number, Text as TextToken, Sign}
use Rattle.qasm_lex.specs.Tokens.{is_digit_byte}

abbrev pub is_lower : ℕ → Bool
is_lower b = nat_le 97 b && nat_le b 122

-- the words that are no identifiers, and the identifiers: words that begin with a lower-case letter
abbrev pub named : List ℕ → Sort
named w = if bytes_eq w (codes "include") then Include
    else if bytes_eq w (codes "qreg") then Qreg
    else if bytes_eq w (codes "creg") then Creg
    else if bytes_eq w (codes "gate") then Gate
    else if bytes_eq w (codes "opaque") then Opaque
    else if bytes_eq w (codes "barrier") then Barrier
    else if bytes_eq w (codes "measure") then Outside
    else if bytes_eq w (codes "reset") then Outside
    else if bytes_eq w (codes "if") then Outside
    else if bytes_eq w (codes "pi") then Pi
    else if bytes_eq w (codes "sin") then Function
    else if bytes_eq w (codes "cos") then Function
    else if bytes_eq w (codes "tan") then Function
    else if bytes_eq w (codes "exp") then Function
    else if bytes_eq w (codes "ln") then Function
    else if bytes_eq w (codes "sqrt") then Function
    else if bytes_eq w (codes "OPENQASM") then OpenQasm
    else if bytes_eq w (codes "U") then Universal
    else if bytes_eq w (codes "CX") then Cx
    else if is_lower (get_or w 0 0) then Id else Other

-- the bytes of a token
abbrev pub spelling : List ℕ → Token → List ℕ
spelling bytes t = slice_range bytes t.from t.to

-- a whole number is a number of digits alone
abbrev pub is_whole_number : List ℕ → Bool
is_whole_number s = list_all is_digit_byte s

-- the signs of one byte
abbrev pub sign_sort : ℕ → Sort
sign_sort b = if b == 59 then Semicolon
    else if b == 44 then Comma
    else if b == 40 then Open
    else if b == 41 then Close
    else if b == 91 then OpenBracket
    else if b == 93 then CloseBracket
    else if b == 123 then OpenBrace
    else if b == 125 then CloseBrace
    else if b == 43 then Plus
    else if b == 45 then Minus
    else if b == 42 then Times
    else if b == 47 then Over
    else if b == 94 then Power
    else Other

-- the terminal of a token by its kind and its bytes
abbrev pub sort_by : Kind → List ℕ → Sort
sort_by Word s = named s
sort_by Number s = if is_whole_number s then Whole else Decimal
sort_by TextToken s = if bytes_eq s (codes "\"qelib1.inc\"") then Library else TextSort
sort_by Sign s = if length s == 1 then sign_sort (get_or s 0 0) else Other

abbrev pub sort_of : List ℕ → Token → Sort
sort_of bytes t = sort_by t.kind (spelling bytes t)

-- the terminals of a text
abbrev pub sorts_of : List ℕ → List Token → List Sort
sorts_of bytes ts = map (sort_of bytes) ts

-- a token is within the text and not empty
abbrev pub IsWithin : List ℕ → Token → Type 0
IsWithin bytes t = (t.from < t.to) × (t.to ≤ length bytes)

-- the spellings of the version that is read
abbrev pub is_version : List ℕ → Bool
is_version s = bytes_eq s (codes "2.0") || bytes_eq s (codes "2")
