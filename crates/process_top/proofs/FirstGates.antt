-- The first gates of a call, by which its workers ran.
use Rattle.std.proofs.Common.{◌≡◌, ◌∙◌, ◌≤◌, ℕ, List, ◌++◌, drop, length, map, take, refl, ap, ap₂, subst, sym, arith}
use Rattle.std.proofs.Math.Seq.{drop-append_seam, take-append_seam}
use Rattle.std.proofs.lemmas.List.{drop-map, length-append, length-drop, length-map, take-map}
use Rattle.process_engine.specs.declared.gates.Gate.{Ghosts as Gates}
use Rattle.engine_calls.specs.GateAnswers.{GateCounts, counts_of}
use Rattle.worker_gate.specs.ManyGates.{asked_gates}
use Rattle.process_top.specs.Worlds.{gates}
use Rattle.process_top.specs.Run.{first_gates, gates_asked}
use Rattle.process_top.specs.Commands.{AreOthersAsBefore}

-- the first come back in front of the others
module _ {G : Type 0} (g : Gates G) (n : ℕ) (xs ys rest : List G) (many : length ys ≡ n) (within : n ≤ length xs) (others : rest ≡ drop n xs) where
  abbrev f : G → GateCounts
  f = counts_of g

  front : take n (ys ++ rest) ≡ ys
  front = subst (λ k. take k (ys ++ rest) ≡ ys) many (take-append_seam ys rest)

  behind : drop n (ys ++ rest) ≡ drop n xs
  behind = subst (λ k. drop k (ys ++ rest) ≡ rest) many (drop-append_seam ys rest) ∙ others

  -- so what is told of the first is what they came to,
  pub first_of_all : first_gates n (gates_asked (gates g xs) (gates g (ys ++ rest))) ≡ asked_gates g (take n xs) ys
  first_of_all =
      ap₂ (λ (b a : List GateCounts). record { answers = g.answers; before = b; after = a }) (take-map f n xs) (take-map f n (ys ++ rest) ∙ ap (map f) front)

  -- and the others are as they were.
  pub others_kept : AreOthersAsBefore n (gates g xs) (gates g (ys ++ rest))
  others_kept = record {
    answers = refl;
    count =
        let all = length-append ys rest in
        let less = ap length others ∙ length-drop n xs in
        length-map (ys ++ rest) f ∙ (omega (arith, all, less, many, within) ∙ sym (length-map xs f));
    others = drop-map f n (ys ++ rest) ∙ (ap (map f) behind ∙ sym (drop-map f n xs));
  }
