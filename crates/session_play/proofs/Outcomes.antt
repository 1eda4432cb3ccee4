-- What holds of results, by whether they are there; and lines that lead to nothing.
use Rattle.std.proofs.Common.{Option, Some, None, Result, Ok, Err, IfOk, IfErr, OnOk, inl, refl, sym}
use Rattle.process_tree.specs.Form.{AreEqualPlans}
use Rattle.process_tree.specs.declared.plan.Plan.{Plan}
use Rattle.process_core.specs.Cores.{CoreState}
use Rattle.scenario_run.proofs.OneOf.{equal_plan}
use Rattle.session_play.specs.declared.cut.Cut.{Cut}
use Rattle.session_play.specs.declared.cut.Cut.TheVariants.{DiskFault, NoMemory}
use Rattle.session_play.specs.Answering.{IsCopy, IsCut}
use Rattle.session_play.specs.Playing.{Played}

module _ {X E : Type 0} where
  pub ok_map : (r : Result X E) (P Q : X → Type 0) → IfOk r P → ((x : X) → P x → Q x) → IfOk r Q
  ok_map (Ok x) P Q is f = f x is
  ok_map (Err e) P Q is f = tt

  pub ok_both : (r : Result X E) (A : Type 0) (P Q : X → Type 0) → OnOk r A → IfOk r P → ((x : X) → A → P x → Q x) → IfOk r Q
  ok_both (Ok x) A P Q a is f = f x a is
  ok_both (Err e) A P Q a is f = tt

  pub on_ok : (r : Result X E) (A : Type 0) → A → OnOk r A
  on_ok (Ok x) A a = a
  on_ok (Err e) A a = tt

  pub on_ok_both : (r : Result X E) (A B : Type 0) → OnOk r A → (A → B) → OnOk r B
  on_ok_both (Ok x) A B a f = f a
  on_ok_both (Err e) A B a f = tt

  pub err_map : (r : Result X E) (P Q : E → Type 0) → IfErr r P → ((e : E) → P e → Q e) → IfErr r Q
  err_map (Ok x) P Q is f = tt
  err_map (Err e) P Q is f = f e is

  pub err_all : (r : Result X E) (P : E → Type 0) → ((e : E) → P e) → IfErr r P
  err_all (Ok x) P f = tt
  err_all (Err e) P f = f e

-- nothing was kept
pub cut_none : (cut : Cut) (p : Played) (c : CoreState) → IsCut cut p c c
cut_none DiskFault p c = refl
cut_none NoMemory p c = inl refl

-- a plan is a copy of itself
pub copy_itself : (o : Option Plan) → IsCopy o o
copy_itself None = tt
copy_itself (Some p) = equal_plan p

pub equal_swap : (p q : Plan) → AreEqualPlans p q → AreEqualPlans q p
equal_swap p q is = record { name = sym is.name; tree = sym is.tree; says = sym is.says; ops = sym is.ops }
