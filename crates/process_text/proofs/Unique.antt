-- That words write one text.
use Rattle.std.proofs.Common.{◌≡◌, ◌≢◌, ◌<◌, ◌^◌, ℕ, ℤ, pos, negsuc, List, [], ◌∷◌, true, nat_eq, codes, decimal, Some, is_some, if◌then◌else◌, refl, sym, ap, arith, ◌∙◌, inl, inr, subst}
use Rattle.std.specs.Fmt.{signed_decimal}
use Rattle.std.specs.Bool.{⊤}
use Rattle.std.specs.Int.Signed.{mag}
use Rattle.std.proofs.lemmas.Fmt.{decimal_injective, signed_decimal_injective}
use Rattle.std.proofs.lemmas.Bool.{and_parts, leb-true, ltb-true, eqb-true}
use Rattle.process_tree.specs.Making.{same_text, is_amount, are_tries, are_refusals, has_good_options}
use Rattle.process_tree.specs.declared.step.Step.{Step}
use Rattle.process_tree.specs.declared.step.StepKind.{StepKind}
use Rattle.process_tree.specs.declared.step.StepKind.TheVariants.{C, P, R, Cr}
use Rattle.text_words.specs.declared.marks.Setting.{Setting}
use Rattle.text_words.specs.declared.marks.Mark.{Mark}
use Rattle.text_words.specs.declared.marks.Mark.TheVariants.{Choose, Or, Done, End}
use Rattle.text_words.specs.Words.{begins}
use Rattle.text_words.specs.Marks.{kind_word, kind_of_word, mark_word, settings, setting_word, number_of, takes}
use Rattle.process_text.specs.Grammar.{Piece, process, step, mark, IsSetting, AreSettings, IsStep, IsPiece, Writes}
use Rattle.text_words.proofs.NumberWords.{are_same-refl}
use Rattle.text_words.proofs.Settings.{AllTake, all_take, taken_is_small, four}

-- the first of a list of words
abbrev first_word : List (List ℕ) → List ℕ
first_word [] = []
first_word (w ∷ ws) = w

abbrev rest_of : List (List ℕ) → List (List ℕ)
rest_of [] = []
rest_of (w ∷ ws) = ws

-- the kind of a step or the mark that a word is
abbrev mark_of : List ℕ → Mark
mark_of w = if same_text w (codes "choose") then Choose else (if same_text w (codes "or") then Or else (if same_text w (codes "done") then Done else End))

mark_of_word : (m : Mark) → mark_of (mark_word m) ≡ m
mark_of_word Choose = refl
mark_of_word Or = refl
mark_of_word Done = refl
mark_of_word End = refl

kind_of_its_word : (k : StepKind) → kind_of_word (kind_word k) ≡ Some k
kind_of_its_word C = refl
kind_of_its_word P = refl
kind_of_its_word R = refl
kind_of_its_word Cr = refl

-- what a word begins: 0 a process, 1 a step, 2 another piece
abbrev sort_of_word : List ℕ → ℕ
sort_of_word w = if same_text w (codes "process") then 0 else (if is_some (kind_of_word w) then 1 else 2)

abbrev sort_of : Piece → ℕ
sort_of (process name) = 0
sort_of (step s) = 1
sort_of (mark m) = 2

sort_of_kind : (k : StepKind) → sort_of_word (kind_word k) ≡ 1
sort_of_kind C = refl
sort_of_kind P = refl
sort_of_kind R = refl
sort_of_kind Cr = refl

sort_of_mark : (m : Mark) → sort_of_word (mark_word m) ≡ 2
sort_of_mark Choose = refl
sort_of_mark Or = refl
sort_of_mark Done = refl
sort_of_mark End = refl

-- the first word tells which sort a piece is of
sort_is : (p : Piece) (a b : List (List ℕ)) → IsPiece p a b → sort_of_word (first_word a) ≡ sort_of p
sort_is (process name) a b is = rw is.1 refl
sort_is (step s) a b is = rw is.words_are (sort_of_kind s.kind)
sort_is (mark m) a b is = rw is (sort_of_mark m)

-- an option is written in one way
setting_is : (x : Setting) (n m : ℕ) (a b c : List (List ℕ)) → IsSetting x n a b → IsSetting x m a c → takes x n ≡ true → takes x m ≡ true → (n ≡ m) × (b ≡ c)
setting_is x n m a b c (inl first) (inl second) en em =
    let small = taken_is_small x n en in
    let small2 = taken_is_small x m em in
    let both = sym first ∙ second in
    let words : decimal n ≡ decimal m = cc in
    (decimal_injective n m (omega arith) (omega arith) words, cc)
setting_is x n m a b c (inl first) (inr second) en em =
    let begun : begins (λ w. same_text w (setting_word x)) a ≡ true = rw first (are_same-refl (setting_word x)) in absurd (cc (begun, second.2))
setting_is x n m a b c (inr first) (inl second) en em =
    let begun : begins (λ w. same_text w (setting_word x)) a ≡ true = rw second (are_same-refl (setting_word x)) in absurd (cc (begun, first.2))
setting_is x n m a b c (inr first) (inr second) en em = (first.1 ∙ sym second.1, sym first.0 ∙ second.0)

-- two steps have the same numbers in these options
abbrev SameNumbers : List Setting → Step → Step → Type 0
SameNumbers [] s t = ⊤
SameNumbers (x ∷ xs) s t = (number_of x s ≡ number_of x t) × SameNumbers xs s t

settings_are : (xs : List Setting) (s t : Step) (a b c : List (List ℕ)) → AreSettings xs s a b → AreSettings xs t a c → AllTake xs s → AllTake xs t → SameNumbers xs s t × (b ≡ c)
settings_are [] s t a b c first second es et = (tt, sym first ∙ second)
settings_are (x ∷ xs) s t a b c first second es et =
    let one = setting_is x (number_of x s) (number_of x t) a first.0 second.0 first.1 second.1 es.0 et.0 in
    let rest = settings_are xs s t first.0 b c first.2 (subst (λ (ws : List (List ℕ)). AreSettings xs t ws c) (sym one.1) second.2) es.1 et.1 in
    ((one.0, rest.0), rest.1)

-- the step with these fields
abbrev pub step_of : StepKind → List ℕ → List ℕ → ℕ → ℤ → ℕ → ℕ → ℕ → ℕ → Step
step_of kind name op key amount tries undo_tries refuse undo_refuse =
    record { kind = kind; name = name; op = op; key = key; amount = amount; tries = tries; undo_tries = undo_tries; refuse = refuse; undo_refuse = undo_refuse }

same_fields : (k k' : StepKind) (n n' o o' : List ℕ) (y y' : ℕ) (z z' : ℤ) (a a' b b' c c' d d' : ℕ) → k ≡ k' → n ≡ n' → o ≡ o' → y ≡ y' → z ≡ z' → a ≡ a' → b ≡ b' → c ≡ c' → d ≡ d'
    → step_of k n o y z a b c d ≡ step_of k' n' o' y' z' a' b' c' d'
same_fields k k' n n' o o' y y' z z' a a' b b' c c' d d' ek en eo ey ez ea eb ec ed = cc

-- a step is its fields
same_step : (s t : Step) → s.kind ≡ t.kind → s.name ≡ t.name → s.op ≡ t.op → s.key ≡ t.key → s.amount ≡ t.amount → s.tries ≡ t.tries → s.undo_tries ≡ t.undo_tries → s.refuse ≡ t.refuse → s.undo_refuse ≡ t.undo_refuse → s ≡ t
same_step s t a b c d e f g h i =
    same_fields s.kind t.kind s.name t.name s.op t.op s.key t.key s.amount t.amount s.tries t.tries s.undo_tries t.undo_tries s.refuse t.refuse s.undo_refuse t.undo_refuse a b c d e f g h i

amount_is_small : (z : ℤ) → is_amount z ≡ true → mag z < 2 ^ 63
amount_is_small (pos n) e = omega (arith, leb-true n 1000000000 e)
amount_is_small (negsuc n) e = omega (arith, ltb-true n 1000000000 e)

-- with good options, the same numbers in the options of the kind are the same in all
numbers_are : (k : StepKind) (s t : Step) → has_good_options k s ≡ true → has_good_options k t ≡ true → SameNumbers (settings k) s t
    → (s.tries ≡ t.tries) × (s.undo_tries ≡ t.undo_tries) × (s.refuse ≡ t.refuse) × (s.undo_refuse ≡ t.undo_refuse)
numbers_are C s t es et same =
    let one = four (nat_eq s.tries 3) (are_tries s.undo_tries) (are_refusals s.refuse) (are_refusals s.undo_refuse) es in
    let two = four (nat_eq t.tries 3) (are_tries t.undo_tries) (are_refusals t.refuse) (are_refusals t.undo_refuse) et in
    (eqb-true s.tries 3 one.0 ∙ sym (eqb-true t.tries 3 two.0), same.0, same.1.0, same.1.1.0)
numbers_are P s t es et same =
    let one = four (nat_eq s.tries 3) (nat_eq s.undo_tries 3) (are_refusals s.refuse) (nat_eq s.undo_refuse 0) es in
    let two = four (nat_eq t.tries 3) (nat_eq t.undo_tries 3) (are_refusals t.refuse) (nat_eq t.undo_refuse 0) et in
    (eqb-true s.tries 3 one.0 ∙ sym (eqb-true t.tries 3 two.0), eqb-true s.undo_tries 3 one.1 ∙ sym (eqb-true t.undo_tries 3 two.1), same.0, eqb-true s.undo_refuse 0 one.3 ∙ sym (eqb-true t.undo_refuse 0 two.3))
numbers_are R s t es et same =
    let one = four (are_tries s.tries) (nat_eq s.undo_tries 3) (are_refusals s.refuse) (nat_eq s.undo_refuse 0) es in
    let two = four (are_tries t.tries) (nat_eq t.undo_tries 3) (are_refusals t.refuse) (nat_eq t.undo_refuse 0) et in
    (same.0, eqb-true s.undo_tries 3 one.1 ∙ sym (eqb-true t.undo_tries 3 two.1), same.1.0, eqb-true s.undo_refuse 0 one.3 ∙ sym (eqb-true t.undo_refuse 0 two.3))
numbers_are Cr s t es et same = (same.0, same.1.0, same.1.1.0, same.1.1.1.0)

-- a step is written in one way, but for options that may be left out
step_is : (s t : Step) (a b c : List (List ℕ)) → IsStep s a b → IsStep t a c → (s ≡ t) × (b ≡ c)
step_is s t a b c first second =
    let good = and_parts (is_amount s.amount) (has_good_options s.kind s) first.good in
    let good2 = and_parts (is_amount t.amount) (has_good_options t.kind t) second.good in
    let both = sym first.words_are ∙ second.words_are in
    let kind_words : kind_word s.kind ≡ kind_word t.kind = cc in
    let kinds : Some s.kind ≡ Some t.kind = sym (kind_of_its_word s.kind) ∙ ap kind_of_word kind_words ∙ kind_of_its_word t.kind in
    let kind : t.kind ≡ s.kind = cc in
    let name : s.name ≡ t.name = cc in
    let op : s.op ≡ t.op = cc in
    let keys : decimal s.key ≡ decimal t.key = cc in
    let amounts : signed_decimal s.amount ≡ signed_decimal t.amount = cc in
    let behind : second.behind ≡ first.behind = cc in
    let key = decimal_injective s.key t.key (omega (arith, first.key_is)) (omega (arith, second.key_is)) keys in
    let amount = signed_decimal_injective s.amount t.amount (amount_is_small s.amount good.0) (amount_is_small t.amount good2.0) amounts in
    let options : has_good_options s.kind t ≡ true = subst (λ (k : StepKind). has_good_options k t ≡ true) kind good2.1 in
    let there = subst (λ (k : StepKind). AreSettings (settings k) t second.behind c) kind second.settings_are in
    let same = settings_are (settings s.kind) s t first.behind b c first.settings_are (subst (λ (ws : List (List ℕ)). AreSettings (settings s.kind) t ws c) behind there)
    (all_take s.kind s good.1) (all_take s.kind t options) in
    let numbers = numbers_are s.kind s t good.1 options same.0 in
    (same_step s t (sym kind) name op key amount numbers.0 numbers.1 numbers.2 numbers.3, same.1)

-- what stands in front tells the piece
piece_is : (p q : Piece) (a b c : List (List ℕ)) → IsPiece p a b → IsPiece q a c → (p ≡ q) × (b ≡ c)
piece_is (process name) (process name2) a b c first second =
    let both = sym first.1 ∙ second.1 in
    let names : name ≡ name2 = cc in
    (ap (λ n. process n) names, cc)
piece_is (process name) (step s) a b c first second = let e = sort_is (process name) a b first in let f = sort_is (step s) a c second in absurd (omega arith)
piece_is (process name) (mark m) a b c first second = let e = sort_is (process name) a b first in let f = sort_is (mark m) a c second in absurd (omega arith)
piece_is (step s) (process name) a b c first second = let e = sort_is (step s) a b first in let f = sort_is (process name) a c second in absurd (omega arith)
piece_is (step s) (step t) a b c first second = let same = step_is s t a b c first second in (ap (λ r. step r) same.0, same.1)
piece_is (step s) (mark m) a b c first second = let e = sort_is (step s) a b first in let f = sort_is (mark m) a c second in absurd (omega arith)
piece_is (mark m) (process name) a b c first second = let e = sort_is (mark m) a b first in let f = sort_is (process name) a c second in absurd (omega arith)
piece_is (mark m) (step s) a b c first second = let e = sort_is (mark m) a b first in let f = sort_is (step s) a c second in absurd (omega arith)
piece_is (mark m) (mark m2) a b c first second =
    let both = sym first ∙ second in
    let words : mark_word m ≡ mark_word m2 = cc in
    let marks : m ≡ m2 = sym (mark_of_word m) ∙ ap mark_of words ∙ mark_of_word m2 in
    (ap (λ n. mark n) marks, cc)

-- a piece has a word
piece_has_word : (p : Piece) (a b : List (List ℕ)) → IsPiece p a b → a ≢ []
piece_has_word (process name) a b is none = let both = sym is.1 ∙ none in absurd (cc)
piece_has_word (step s) a b is none = let both = sym is.words_are ∙ none in absurd (cc)
piece_has_word (mark m) a b is none = let both = sym is ∙ none in absurd (cc)

-- words write one text
pub pieces_are : (ps qs : List Piece) (a : List (List ℕ)) → Writes ps a [] → Writes qs a [] → ps ≡ qs
pieces_are [] [] a first second = refl
pieces_are [] (q ∷ qs) a first second = absurd (piece_has_word q a second.0 second.1 first)
pieces_are (p ∷ ps) [] a first second = absurd (piece_has_word p a first.0 first.1 second)
pieces_are (p ∷ ps) (q ∷ qs) a first second =
    let one = piece_is p q a first.0 second.0 first.1 second.1 in
    let rest = pieces_are ps qs first.0 first.2 (subst (λ (ws : List (List ℕ)). Writes qs ws []) (sym one.1) second.2) in
    cc (one.0, rest)
