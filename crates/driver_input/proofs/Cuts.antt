-- Lines with their line feeds, in front of any bytes.
use Rattle.std.proofs.Common.{◌≡◌, ℕ, Bool, true, false, cond, List, [], ◌∷◌, ◌++◌, nat_eq, Option, Some, None, ap, sym, ◌∙◌, refl, append-nil}
use Rattle.std.specs.Option.{option_map}
use Rattle.trace_verify.specs.Lines.{Parts, all_behind, onto_front, cut}
use Rattle.line_reader.proofs.Cuts.{cut-behind}

-- before the first such byte there is none
pub cut-front : (b : ℕ) (cs front behind : List ℕ) → cut b cs ≡ Some (front, behind) → cut b front ≡ None
cut-front b [] front behind e = absurd (cc)
cut-front b (c ∷ cs) front behind e = by (nat_eq c b) refl (cut-front b cs) e
  where
    by_rest : (o : Option Parts) → cut b cs ≡ o → nat_eq c b ≡ false → ((front behind : List ℕ) → cut b cs ≡ Some (front, behind) → cut b front ≡ None) → option_map (onto_front c) o ≡ Some (front, behind) → cut b front ≡ None
    by_rest None none is later f = absurd (cc)
    by_rest (Some p) some is later f =
        let both : onto_front c p ≡ (front, behind) = cc in
        let first : c ∷ p.0 ≡ front = ap (λ r. r.0) both in
        ap (cut b) (sym first)
        ∙ (ap (λ t. cond t (Some (all_behind p.0)) (option_map (onto_front c) (cut b p.0))) is ∙ ap (option_map (onto_front c)) (later p.0 p.1 some))

    by : (t : Bool) → nat_eq c b ≡ t → ((front behind : List ℕ) → cut b cs ≡ Some (front, behind) → cut b front ≡ None) → cond t (Some (all_behind cs)) (option_map (onto_front c) (cut b cs)) ≡ Some (front, behind) → cut b front ≡ None
    by true is later f =
        let both : all_behind cs ≡ (front, behind) = cc in
        let first : [] ≡ front = ap (λ r. r.0) both in
        ap (cut b) (sym first)
    by false is later f = by_rest (cut b cs) refl is later f

-- a line that was cut is cut, whatever stands behind its line feed
pub cut-line : (bytes line left rest : List ℕ) → cut 10 bytes ≡ Some (line, left) → cut 10 (line ++ (10 ∷ rest)) ≡ Some (line, rest)
cut-line bytes line left rest is =
    cut-behind 10 line (10 ∷ rest) [] rest (cut-front 10 bytes line left is) refl ∙ ap (λ l. Some (l, rest)) (append-nil line)
