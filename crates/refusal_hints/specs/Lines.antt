-- Lines of an input that begin with a word.
use Rattle.std.specs.Prelude.{◌≡◌, ℕ, ◌+◌, ◌-◌, List, [], ◌∷◌, Bool, true, not, ◌&&◌, length, take, drop, nat_eq, codes}
use Rattle.std.specs.Prelude.{Option, Some, None, option_map, if◌then◌else◌, refl}
use Rattle.std.specs.List.{starts_with}
use Rattle.std.specs.Option.{option_map_or}
use Rattle.refusal_hints.specs.Words.{is_name_byte_at}

-- this text begins with the word, and with no longer one
abbrev pub begins_with : List ℕ → List ℕ → Bool
begins_with text word = starts_with nat_eq text word && not (is_name_byte_at text (length word))

-- how many bytes stand in front of the line that begins with the word and has k such lines in front of it. It is looked for behind n
-- bytes, where a line begins or doesn't
abbrev pub line_from : Bool → ℕ → ℕ → List ℕ → List ℕ → Option ℕ
line_from begins n k word [] = None
line_from begins n k word (b ∷ bs) =
    if begins && begins_with (b ∷ bs) word then (if nat_eq k 0 then Some n else line_from (nat_eq b 10) (n + 1) (k - 1) word bs)
    else line_from (nat_eq b 10) (n + 1) k word bs

abbrev pub nth_line : ℕ → List ℕ → List ℕ → Option ℕ
nth_line k word text = line_from true 0 k word text

-- with which the table of an operation begins
abbrev pub header : List ℕ
header = codes "[[op]]"

-- how far the first table of this text goes
abbrev pub table_size : List ℕ → ℕ
table_size text = option_map_or (λ n. n) (nth_line 1 header text) (length text)

-- where the first table of this text has the key, and else its beginning
abbrev pub key_in_table : List ℕ → List ℕ → ℕ
key_in_table key text = option_map_or (λ n. n) (nth_line 0 key (take (table_size text) text)) 0

-- where the table of operation k has the key, and else the beginning of the table
abbrev pub key_of_table : ℕ → List ℕ → List ℕ → Option ℕ
key_of_table k key text = option_map (λ n. n + key_in_table key (drop n text)) (nth_line k header text)

pub the_second_table : nth_line 1 header (codes "[[op]]\na\n[[op]]\n") ≡ Some 9
the_second_table = refl

pub its_key : key_of_table 1 (codes "verb") (codes "[[op]]\nverb\n[[op]]\nverbs\nverb = 1\n") ≡ Some 25
its_key = refl
