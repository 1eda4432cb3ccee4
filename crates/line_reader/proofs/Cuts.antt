-- Texts cut at a byte, and put together again.
use Rattle.std.proofs.Common.{◌≡◌, ℕ, Bool, true, false, cond, List, [], ◌∷◌, ◌++◌, nat_eq, Option, Some, None, ap, ◌∙◌, refl}
use Rattle.std.proofs.lemmas.Bool.{eqb-true}
use Rattle.std.specs.Option.{option_map}
use Rattle.trace_verify.specs.Lines.{Parts, all_behind, onto_front, cut}

-- the same with these bytes in front
abbrev pub onto_fronts : List ℕ → Parts → Parts
onto_fronts front p = (front ++ p.0, p.1)

-- what a text is cut into is all of it, but for the byte
pub cut-whole : (b : ℕ) (cs front behind : List ℕ) → cut b cs ≡ Some (front, behind) → cs ≡ front ++ (b ∷ behind)
cut-whole b [] front behind e = absurd (cc)
cut-whole b (c ∷ cs) front behind e = by (nat_eq c b) refl (cut-whole b cs) e
  where
    by_rest : (o : Option Parts) → cut b cs ≡ o → ((front behind : List ℕ) → cut b cs ≡ Some (front, behind) → cs ≡ front ++ (b ∷ behind)) → option_map (onto_front c) o ≡ Some (front, behind)
        → c ∷ cs ≡ front ++ (b ∷ behind)
    by_rest None none later f = absurd (cc)
    by_rest (Some p) some later f =
        let both : onto_front c p ≡ (front, behind) = cc in
        let first : c ∷ p.0 ≡ front = ap (λ r. r.0) both in
        let second : p.1 ≡ behind = ap (λ r. r.1) both in
        ap (λ ds. c ∷ ds) (later p.0 p.1 some) ∙ (ap (λ w. w ++ (b ∷ p.1)) first ∙ ap (λ r. front ++ (b ∷ r)) second)

    by : (t : Bool) → nat_eq c b ≡ t → ((front behind : List ℕ) → cut b cs ≡ Some (front, behind) → cs ≡ front ++ (b ∷ behind)) → cond t (Some (all_behind cs)) (option_map (onto_front c) (cut b cs)) ≡ Some (front, behind)
        → c ∷ cs ≡ front ++ (b ∷ behind)
    by true is later f =
        let both : all_behind cs ≡ (front, behind) = cc in
        let first : [] ≡ front = ap (λ r. r.0) both in
        let second : cs ≡ behind = ap (λ r. r.1) both in
        ap (λ d. d ∷ cs) (eqb-true c b is) ∙ (ap (λ w. w ++ (b ∷ cs)) first ∙ ap (λ r. front ++ (b ∷ r)) second)
    by false is later f = by_rest (cut b cs) refl later f

-- bytes in front among which there is no such byte come to the first part
pub cut-append : (b : ℕ) (front rest : List ℕ) → cut b front ≡ None → cut b (front ++ rest) ≡ option_map (onto_fronts front) (cut b rest)
cut-append b [] rest e = by_rest (cut b rest)
  where
    by_rest : (o : Option Parts) → o ≡ option_map (onto_fronts []) o
    by_rest None = refl
    by_rest (Some p) = refl
cut-append b (c ∷ cs) rest e = by (nat_eq c b) (cut-append b cs rest) e
  where
    by_rest : (o : Option Parts) → option_map (onto_front c) (option_map (onto_fronts cs) o) ≡ option_map (onto_fronts (c ∷ cs)) o
    by_rest None = refl
    by_rest (Some p) = refl

    by_front : (o : Option Parts) → cut b cs ≡ o → option_map (onto_front c) o ≡ None → cut b cs ≡ None
    by_front None is f = is
    by_front (Some p) is f = absurd (cc)

    by : (t : Bool) → (cut b cs ≡ None → cut b (cs ++ rest) ≡ option_map (onto_fronts cs) (cut b rest)) → cond t (Some (all_behind cs)) (option_map (onto_front c) (cut b cs)) ≡ None
        → cond t (Some (all_behind (cs ++ rest))) (option_map (onto_front c) (cut b (cs ++ rest))) ≡ option_map (onto_fronts (c ∷ cs)) (cut b rest)
    by true later f = absurd (cc)
    by false later f = ap (option_map (onto_front c)) (later (by_front (cut b cs) refl f)) ∙ by_rest (cut b rest)

-- so a cut behind them is a cut of all
pub cut-behind : (b : ℕ) (front rest line behind : List ℕ) → cut b front ≡ None → cut b rest ≡ Some (line, behind) → cut b (front ++ rest) ≡ Some (front ++ line, behind)
cut-behind b front rest line behind none is = cut-append b front rest none ∙ ap (option_map (onto_fronts front)) is

-- and where there is none behind them either, there is none in all
pub cut-nowhere : (b : ℕ) (front rest : List ℕ) → cut b front ≡ None → cut b rest ≡ None → cut b (front ++ rest) ≡ None
cut-nowhere b front rest none is = cut-append b front rest none ∙ ap (option_map (onto_fronts front)) is
