-- Texts cut at a byte.
use Rattle.std.proofs.Common.{◌≡◌, ℕ, suc, ◌+◌, ◌-◌, ◌<◌, ◌≤◌, Bool, true, false, cond, List, [], ◌∷◌, length, take, drop, nat_eq, Option, Some, None, sym, refl, ap, ◌∙◌, arith, add-one}
use Rattle.std.specs.List.{onto_first}
use Rattle.std.specs.Option.{option_map}
use Rattle.std.proofs.lemmas.List.Splits.{slice_split-cons_yes, slice_split-cons_no}
use Rattle.trace_verify.specs.Lines.{Parts, all_behind, onto_front, cut, parts, size_before}

-- where no such byte stands in a text, it isn't cut
cut-none : (b : ℕ) (cs : List ℕ) → drop (size_before b cs) cs ≡ [] → cut b cs ≡ None
cut-none b [] e = refl
cut-none b (c ∷ cs) e = by (nat_eq c b) (cut-none b cs) e
  where
    by : (t : Bool) → (drop (size_before b cs) cs ≡ [] → cut b cs ≡ None) → drop (cond t 0 (size_before b cs + 1)) (c ∷ cs) ≡ [] → cond t (Some (all_behind cs)) (option_map (onto_front c) (cut b cs)) ≡ None
    by true rest f = absurd (cc)
    by false rest f = ap (option_map (onto_front c)) (rest (ap (λ n. drop n (c ∷ cs)) (sym (add-one (size_before b cs))) ∙ f))

-- else at the first one
cut-some : (b : ℕ) (cs : List ℕ) (d : ℕ) (rest : List ℕ) → drop (size_before b cs) cs ≡ d ∷ rest → cut b cs ≡ Some (take (size_before b cs) cs, rest)
cut-some b [] d rest e = absurd (cc)
cut-some b (c ∷ cs) d rest e = by (nat_eq c b) (cut-some b cs d rest) e
  where
    by : (t : Bool) → (drop (size_before b cs) cs ≡ d ∷ rest → cut b cs ≡ Some (take (size_before b cs) cs, rest))
        → drop (cond t 0 (size_before b cs + 1)) (c ∷ cs) ≡ d ∷ rest
        → cond t (Some (all_behind cs)) (option_map (onto_front c) (cut b cs)) ≡ Some (take (cond t 0 (size_before b cs + 1)) (c ∷ cs), rest)
    by true later f = let same : cs ≡ rest = cc in ap (λ r. Some (all_behind r)) same
    by false later f =
        ap (option_map (onto_front c)) (later (ap (λ n. drop n (c ∷ cs)) (sym (add-one (size_before b cs))) ∙ f))
        ∙ ap (λ n. Some (take n (c ∷ cs), rest)) (sym (add-one (size_before b cs)))

-- a text in which no such byte stands is its one part
pub parts-none : (b : ℕ) (cs : List ℕ) → cut b cs ≡ None → parts b cs ≡ cs ∷ []
parts-none b [] e = refl
parts-none b (c ∷ cs) e = by (nat_eq c b) refl (parts-none b cs) e
  where
    by_rest : (o : Option Parts) → cut b cs ≡ o → (cut b cs ≡ None → parts b cs ≡ cs ∷ []) → option_map (onto_front c) o ≡ None → onto_first c (parts b cs) ≡ (c ∷ cs) ∷ []
    by_rest None none later f = ap (onto_first c) (later none)
    by_rest (Some p) some later f = absurd (cc)

    by : (t : Bool) → nat_eq c b ≡ t → (cut b cs ≡ None → parts b cs ≡ cs ∷ []) → cond t (Some (all_behind cs)) (option_map (onto_front c) (cut b cs)) ≡ None → parts b (c ∷ cs) ≡ (c ∷ cs) ∷ []
    by true is later f = absurd (cc)
    by false is later f = slice_split-cons_no (λ d. nat_eq d b) c cs is ∙ by_rest (cut b cs) refl later f

-- else what stands before the first is the first part, and the parts of what stands behind it are the others
pub parts-some : (b : ℕ) (cs front behind : List ℕ) → cut b cs ≡ Some (front, behind) → parts b cs ≡ front ∷ parts b behind
parts-some b [] front behind e = absurd (cc)
parts-some b (c ∷ cs) front behind e = by (nat_eq c b) refl (parts-some b cs) e
  where
    by_rest : (o : Option Parts) → cut b cs ≡ o → ((front behind : List ℕ) → cut b cs ≡ Some (front, behind) → parts b cs ≡ front ∷ parts b behind) → option_map (onto_front c) o ≡ Some (front, behind) → onto_first c (parts b cs) ≡ front ∷ parts b behind
    by_rest None none later f = absurd (cc)
    by_rest (Some p) some later f =
        let both : onto_front c p ≡ (front, behind) = cc in
        let first : c ∷ p.0 ≡ front = ap (λ r. r.0) both in
        let second : p.1 ≡ behind = ap (λ r. r.1) both in
        ap (onto_first c) (later p.0 p.1 some)
        ∙ (ap (λ w. w ∷ parts b p.1) first ∙ ap (λ r. front ∷ parts b r) second)

    by : (t : Bool) → nat_eq c b ≡ t → ((front behind : List ℕ) → cut b cs ≡ Some (front, behind) → parts b cs ≡ front ∷ parts b behind)
        → cond t (Some (all_behind cs)) (option_map (onto_front c) (cut b cs)) ≡ Some (front, behind) → parts b (c ∷ cs) ≡ front ∷ parts b behind
    by true is later f =
        let both : all_behind cs ≡ (front, behind) = cc in
        let first : [] ≡ front = ap (λ r. r.0) both in
        let second : cs ≡ behind = ap (λ r. r.1) both in
        slice_split-cons_yes (λ d. nat_eq d b) c cs is ∙ (ap (λ w. w ∷ parts b cs) first ∙ ap (λ r. front ∷ parts b r) second)
    by false is later f = slice_split-cons_no (λ d. nat_eq d b) c cs is ∙ by_rest (cut b cs) refl later f

-- and that is shorter
pub cut-shorter : (b : ℕ) (cs front behind : List ℕ) → cut b cs ≡ Some (front, behind) → length behind < length cs
cut-shorter b [] front behind e = absurd (cc)
cut-shorter b (c ∷ cs) front behind e = by (nat_eq c b) (cut-shorter b cs) e
  where
    by_rest : (o : Option Parts) → cut b cs ≡ o → ((front behind : List ℕ) → cut b cs ≡ Some (front, behind) → length behind < length cs) → option_map (onto_front c) o ≡ Some (front, behind) → length behind < length (c ∷ cs)
    by_rest None none later f = absurd (cc)
    by_rest (Some p) some later f =
        let both : onto_front c p ≡ (front, behind) = cc in
        let second : p.1 ≡ behind = ap (λ r. r.1) both in
        let less = later p.0 p.1 some in
        let same : length p.1 ≡ length behind = ap length second in
        omega (arith, less, same)

    by : (t : Bool) → ((front behind : List ℕ) → cut b cs ≡ Some (front, behind) → length behind < length cs) → cond t (Some (all_behind cs)) (option_map (onto_front c) (cut b cs)) ≡ Some (front, behind) → length behind < length (c ∷ cs)
    by true later f =
        let both : all_behind cs ≡ (front, behind) = cc in
        let second : cs ≡ behind = ap (λ r. r.1) both in
        let same : length cs ≡ length behind = ap length second in
        omega (arith, same)
    by false later f = by_rest (cut b cs) refl later f

take_whole : (cs : List ℕ) → take (length cs) cs ≡ cs
take_whole [] = refl
take_whole (c ∷ cs) = ap (λ ds. c ∷ ds) (take_whole cs)

drop_none : (cs : List ℕ) → drop 0 cs ≡ cs
drop_none [] = refl
drop_none (c ∷ cs) = refl

-- The same, of a text that is divided where the first such byte stands.
pub cut-none_at : (b : ℕ) (cs behind : List ℕ) → behind ≡ drop (size_before b cs) cs → length behind < 1 → cut b cs ≡ None
cut-none_at b cs [] is none = cut-none b cs (sym is)
cut-none_at b cs (d ∷ rest) is none = absurd (omega arith)

pub cut-some_at : (b : ℕ) (cs front behind : List ℕ) → front ≡ take (size_before b cs) cs → behind ≡ drop (size_before b cs) cs → 1 ≤ length behind
    → cut b cs ≡ Some (front, take (length behind - 1) (drop 1 behind))
cut-some_at b cs front [] first is some = absurd (omega arith)
cut-some_at b cs front (d ∷ rest) first is some =
    let long : suc (length rest) - 1 ≡ length rest = omega arith in
    cut-some b cs d rest (sym is)
    ∙ (ap (λ w. Some (w, rest)) (sym first)
    ∙ ap (λ r. Some (front, r)) (sym (ap (λ n. take n (drop 1 (d ∷ rest))) long ∙ (ap (take (length rest)) (drop_none rest) ∙ take_whole rest))))
