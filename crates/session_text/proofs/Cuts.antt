-- How long the parts of a text are that is cut at a byte.
use Rattle.std.proofs.Common.{◌≡◌, ℕ, ◌+◌, Bool, true, false, cond, List, [], ◌∷◌, length, nat_eq, Option, Some, None, ap, arith, refl}
use Rattle.std.specs.Option.{option_map}
use Rattle.trace_verify.specs.Lines.{Parts, all_behind, onto_front, cut}

-- a cut takes one byte away
pub cut-length : (b : ℕ) (cs front behind : List ℕ) → cut b cs ≡ Some (front, behind) → length cs ≡ length front + 1 + length behind
cut-length b [] front behind e = absurd (cc)
cut-length b (c ∷ cs) front behind e = by (nat_eq c b) (cut-length b cs) e
  where
    by_rest : (o : Option Parts) → cut b cs ≡ o → ((front behind : List ℕ) → cut b cs ≡ Some (front, behind) → length cs ≡ length front + 1 + length behind) → option_map (onto_front c) o ≡ Some (front, behind)
        → length (c ∷ cs) ≡ length front + 1 + length behind
    by_rest None none later f = absurd (cc)
    by_rest (Some p) some later f =
        let both : onto_front c p ≡ (front, behind) = cc in
        let first : c ∷ p.0 ≡ front = ap (λ r. r.0) both in
        let second : p.1 ≡ behind = ap (λ r. r.1) both in
        let size = later p.0 p.1 some in
        let one : length (c ∷ p.0) ≡ length front = ap length first in
        let two : length p.1 ≡ length behind = ap length second in
        omega (arith, size, one, two)

    by : (t : Bool) → ((front behind : List ℕ) → cut b cs ≡ Some (front, behind) → length cs ≡ length front + 1 + length behind) → cond t (Some (all_behind cs)) (option_map (onto_front c) (cut b cs)) ≡ Some (front, behind)
        → length (c ∷ cs) ≡ length front + 1 + length behind
    by true later f =
        let both : all_behind cs ≡ (front, behind) = cc in
        let first : [] ≡ front = ap (λ r. r.0) both in
        let second : cs ≡ behind = ap (λ r. r.1) both in
        let one : length {A = ℕ} [] ≡ length front = ap length first in
        let two : length cs ≡ length behind = ap length second in
        omega (arith, one, two)
    by false later f = by_rest (cut b cs) refl later f
