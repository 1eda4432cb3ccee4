-- What holds of an answer.
use Rattle.std.proofs.Common.{OnOk, OnErr}
use Rattle.std.specs.Prelude.{Result, Ok, Err}

-- what follows from what holds where it is Ok, holds there
pub OnOk-then : {T E : Type 0} {P Q : Type 0} → (P → Q) → (r : Result T E) → OnOk r P → OnOk r Q
OnOk-then f (Ok x) p = f p
OnOk-then f (Err e) p = p

pub OnErr-then : {T E : Type 0} {P Q : Type 0} → (P → Q) → (r : Result T E) → OnErr r P → OnErr r Q
OnErr-then f (Ok x) p = p
OnErr-then f (Err e) p = f p

-- and from two things
pub OnOk-both : {T E : Type 0} {P Q S : Type 0} → (P → Q → S) → (r : Result T E) → OnOk r P → OnOk r Q → OnOk r S
OnOk-both f (Ok x) p q = f p q
OnOk-both f (Err e) p q = p

-- what follows from what holds at Ok and from what holds at Err, holds
pub either_answer : {T E : Type 0} {P Q S : Type 0} → (P → S) → (Q → S) → (r : Result T E) → OnOk r P → OnErr r Q → S
either_answer f g (Ok x) p q = f p
either_answer f g (Err e) p q = g q
