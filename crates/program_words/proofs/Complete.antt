-- What is written as it should be is taken.
use Rattle.std.proofs.Common.{◌≡◌, ◌∙◌, ◌≤◌, ℕ, Bool, true, false, List, [], ◌∷◌, drop, take, ◌-◌, refl, map, slice_index_or, ap, ap₂, sym, subst, inl, inr, ◌⊎◌, arith, ◌==◌, length}
use Rattle.std.specs.Prelude.{Option, Some, None, Result, Ok, Err, option_map, unwrap_or, codes, decimal, ⊤}
use Rattle.std.specs.Option.{option_map_or}
use Rattle.std.specs.Str.Parse.{digits_value, without_leading_plus}
use Rattle.std.proofs.lemmas.List.{take_all}
use Rattle.clap.specs.Walk.{Text, one_of}
use Rattle.clap.specs.Simple.{matches_of}
use Rattle.clap.specs.Faults.{fault_of}
use Rattle.program_words.specs.Apps.{numbers_app, plain_app, workers_app}
use Rattle.program_words.specs.Asked.{Answers, number_of, numbers_asked, workers_asked}
use Rattle.program_words.specs.Commands.{asked, asked_by, plain_asked}
use Rattle.program_words.specs.Names.{named, name_text}
use Rattle.program_words.specs.declared.names.CommandName.{CommandName}
use Rattle.program_words.specs.declared.names.CommandName.TheVariants as name
use Rattle.program_words.specs.Forms.{IsCommandForm, IsNumbersForm, IsWorkersForm}
use Rattle.program_words.specs.declared.reading.Command.{Command}
use Rattle.program_words.specs.declared.reading.Command.TheVariants as command
use Rattle.program_words.specs.declared.refusals.WordsError.{WordsError}
use Rattle.program_words.specs.declared.refusals.WordsError.TheVariants.{BadWords, NoMemory}
use Rattle.program_words.proofs.Taken.{taken_by}
use Rattle.program_words.proofs.Numerals.{IsPlainNumber, decimal_is, signed_accepted, unsigned_accepted}
use Rattle.program_words.proofs.Passes.{history_given, history_left_out, options_left_out, strict_given, strict_values_given, values_given, values_strict_given, nothing_passes, no_workers_pass, numbers_count, numbers_number, numbers_pass, one_worker, workers_number, workers_pass}

number_at : (t : Text) (n : ℕ) (o : Option Text) → IsPlainNumber t n → o ≡ Some t
    → option_map_or (λ t. digits_value 10 (without_leading_plus t)) o 0 ≡ n
number_at t n o p found = ap (λ (o : Option Text). option_map_or (λ t. digits_value 10 (without_leading_plus t)) o 0) found ∙ (ap (digits_value 10) p.plus ∙ p.value)

workers_form : (name : Text) (n d : ℕ) (ds : Text) → IsPlainNumber (d ∷ ds) n → (d == 45) ≡ false → 1 ≤ n → n ≤ 16
    → workers_asked name (codes "--workers" ∷ (d ∷ ds) ∷ []) ≡ Some n
workers_form name n d ds p minus least most =
    let words = codes "--workers" ∷ (d ∷ ds) ∷ [] in
    taken_by (fault_of (workers_app name) words) (number_of (codes "workers") (matches_of (workers_app name) words))
    (workers_pass name d ds minus (signed_accepted 1 16 n (d ∷ ds) p least most (omega arith)))
    ∙ ap Some (number_at (d ∷ ds) n (one_of (codes "workers") (matches_of (workers_app name) words)) p (workers_number name d ds minus))

workers_written : (name : Text) (n : ℕ) (t : Text) → IsPlainNumber t n → 1 ≤ n → n ≤ 16 → workers_asked name (codes "--workers" ∷ t ∷ []) ≡ Some n
workers_written name n t p least most =
    subst (λ (t : Text). workers_asked name (codes "--workers" ∷ t ∷ []) ≡ Some n) (sym p.is)
    (workers_form name n p.first p.rest (subst (λ (t : Text). IsPlainNumber t n) p.is p) p.minus least most)

workers_left_out : (name : Text) → workers_asked name [] ≡ Some 1
workers_left_out name =
    taken_by (fault_of (workers_app name) []) (number_of (codes "workers") (matches_of (workers_app name) [])) (no_workers_pass name)
    ∙ ap Some (ap (λ (o : Option Text). option_map_or (λ t. digits_value 10 (without_leading_plus t)) o 0) (one_worker name))

-- the forms of the option ask for their number
pub workers_form_asked : (name : Text) (n : ℕ) (words : List Text) → IsWorkersForm n words → workers_asked name words ≡ Some n
workers_form_asked name n words (inl h) =
    ap (workers_asked name) h.2 ∙ workers_written name n (decimal n) (decimal_is n (omega arith)) h.0 h.1
workers_form_asked name n words (inr h) = ap (workers_asked name) h.1 ∙ (workers_left_out name ∙ ap Some (sym h.0))

numbers_form : (name : Text) (n k d e : ℕ) (ds es : Text) → IsPlainNumber (d ∷ ds) n → IsPlainNumber (e ∷ es) k → (d == 45) ≡ false → (e == 45) ≡ false
    → n ≤ 18446744073709551615 → 1 ≤ k → k ≤ 256
    → numbers_asked name ((d ∷ ds) ∷ (e ∷ es) ∷ []) ≡ Some (n, k)
numbers_form name n k d e ds es p q minus other fits least most =
    let words = (d ∷ ds) ∷ (e ∷ es) ∷ [] in
    let rows = matches_of (numbers_app name) words in
    taken_by (fault_of (numbers_app name) words) (number_of (codes "number") rows, number_of (codes "count") rows)
    (numbers_pass name d e ds es minus other (unsigned_accepted n (d ∷ ds) p fits) (signed_accepted 1 256 k (e ∷ es) q least most (omega arith)))
    ∙ ap₂ (λ (a b : ℕ). Some (a, b)) (number_at (d ∷ ds) n (one_of (codes "number") rows) p (numbers_number name d e ds es minus other))
    (number_at (e ∷ es) k (one_of (codes "count") rows) q (numbers_count name d e ds es minus other))

pub numbers_written : (name : Text) (n k : ℕ) (t u : Text) → IsPlainNumber t n → IsPlainNumber u k → n ≤ 18446744073709551615 → 1 ≤ k → k ≤ 256
    → numbers_asked name (t ∷ u ∷ []) ≡ Some (n, k)
numbers_written name n k t u p q fits least most =
    subst (λ (t : Text). numbers_asked name (t ∷ u ∷ []) ≡ Some (n, k)) (sym p.is)
    (subst (λ (u : Text). numbers_asked name ((p.first ∷ p.rest) ∷ u ∷ []) ≡ Some (n, k)) (sym q.is)
    (numbers_form name n k p.first q.first p.rest q.rest (subst (λ (t : Text). IsPlainNumber t n) p.is p) (subst (λ (t : Text). IsPlainNumber t k) q.is q)
    p.minus q.minus fits least most))

-- two numbers in range ask for themselves
pub numbers_form_asked : (name : Text) (n k : ℕ) (words : List Text) → IsNumbersForm n k words → numbers_asked name words ≡ Some (n, k)
numbers_form_asked name n k words h =
    ap (numbers_asked name) h.3
    ∙ numbers_written name n k (decimal n) (decimal k) (decimal_is n (omega arith)) (decimal_is k (omega arith)) h.0 h.1 h.2

plain_written : (name : Text) (c : Command) → plain_asked name c [] ≡ Some c
plain_written name c = ap (option_map (λ (_ : ⊤). c)) (taken_by (fault_of (plain_app name) []) tt (nothing_passes name))

-- the name of a command, as it is written, names it
names_itself : (n : CommandName) → named (name_text n) ≡ Some n
names_itself name.Check = refl
names_itself name.Expand = refl
names_itself name.Init = refl
names_itself name.Run = refl
names_itself name.Session = refl
names_itself name.Serve = refl
names_itself name.Restart = refl
names_itself name.Show = refl
names_itself name.Replay = refl
names_itself name.Verify = refl
names_itself name.Audit = refl
names_itself name.Gen = refl
names_itself name.Bulk = refl
names_itself name.Help = refl
names_itself name.Version = refl

-- an `init` with these options
abbrev init_of : Option (Bool × Bool) → Option Command
init_of = option_map (λ (values, strict). command.Init values strict)

-- a command as it is written asks for itself
pub form_asked : (c : Command) (words : List Text) → IsCommandForm c words → asked words ≡ Some c
form_asked command.Check words is = ap asked is ∙ plain_written (codes "check") command.Check
form_asked command.Expand words is = ap asked is ∙ plain_written (codes "expand") command.Expand
form_asked (command.Init true true) words (inl is) = ap asked is ∙ ap init_of (values_strict_given (codes "init"))
form_asked (command.Init true true) words (inr is) = ap asked is ∙ ap init_of (strict_values_given (codes "init"))
form_asked (command.Init true false) words is = ap asked is ∙ ap init_of (values_given (codes "init"))
form_asked (command.Init false true) words is = ap asked is ∙ ap init_of (strict_given (codes "init"))
form_asked (command.Init false false) words is = ap asked is ∙ ap init_of (options_left_out (codes "init"))
form_asked (command.Run workers) words (rest, is, form) =
    ap asked is ∙ ap (option_map (λ (n : ℕ). command.Run n)) (workers_form_asked (codes "run") workers rest form)
form_asked command.Session words is = ap asked is ∙ plain_written (codes "session") command.Session
form_asked command.Serve words is = ap asked is ∙ plain_written (codes "serve") command.Serve
form_asked command.Restart words is = ap asked is ∙ plain_written (codes "restart") command.Restart
form_asked command.Show words is = ap asked is ∙ plain_written (codes "show") command.Show
form_asked command.Replay words is = ap asked is ∙ plain_written (codes "replay") command.Replay
form_asked (command.Audit true) words is = ap asked is ∙ ap (option_map (λ (b : Bool). command.Audit b)) (history_given (codes "audit"))
form_asked (command.Audit false) words is = ap asked is ∙ ap (option_map (λ (b : Bool). command.Audit b)) (history_left_out (codes "audit"))
form_asked command.Verify words is = ap asked is ∙ plain_written (codes "verify") command.Verify
form_asked (command.Gen number count) words (rest, is, form) =
    ap asked is ∙ ap (option_map (λ ((n, k) : ℕ × ℕ). command.Gen n k)) (numbers_form_asked (codes "gen") number count rest form)
form_asked (command.Bulk number count) words (rest, is, form) =
    ap asked is ∙ ap (option_map (λ ((n, k) : ℕ × ℕ). command.Bulk n k)) (numbers_form_asked (codes "bulk") number count rest form)
form_asked (command.Help None) words (inl is) = ap asked is
form_asked (command.Help None) words (inr (inl is)) = ap asked is
form_asked (command.Help None) words (inr (inr is)) = ap asked is
form_asked (command.Help (Some about)) words is = ap asked is ∙ ap (option_map (λ (n : CommandName). command.Help (Some n))) (names_itself about)
form_asked command.Version words (inl is) = ap asked is ∙ plain_written (codes "version") command.Version
form_asked command.Version words (inr is) = ap asked is

-- an answer to words that ask for something is that, or memory is wanting
pub answered : {X : Type 0} (x : X) (o : Option X) (r : Result X WordsError) → Answers o r → o ≡ Some x
    → (r ≡ Ok x) ⊎ (r ≡ Err NoMemory)
answered x o (Ok y) a e =
    let same : Some y ≡ Some x = sym a ∙ e in
    inl (ap (λ (o : Option _). Ok (unwrap_or o x)) same)
answered x o (Err BadWords) a e =
    let bad : None ≡ Some x = sym a ∙ e in
    cc
answered x o (Err NoMemory) a e = inr refl

-- what words ask for, by what the first names
pub asked_named : {X : Type 0} (text : X → Text) (xs : List X) (x : X) (o : Option CommandName) → 1 ≤ length xs → x ≡ slice_index_or xs 0 x → named (text x) ≡ o
    → asked (map text xs) ≡ asked_by o (text x) (map text (take (length xs - 1) (drop 1 xs)))
asked_named text [] x o some first is = absurd (omega arith)
asked_named text (y ∷ ys) x o some first is =
    let all : take (length (y ∷ ys) - 1) ys ≡ ys = take_all (length (y ∷ ys) - 1) ys (omega arith) in
    ap (λ z. asked_by (named (text z)) (text z) (map text ys)) (sym first)
    ∙ ap (λ p. asked_by p (text x) (map text ys)) is
    ∙ ap (λ zs. asked_by o (text x) (map text zs)) (sym all)
