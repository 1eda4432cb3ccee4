-- What the words of the example ask for.
use Rattle.std.proofs.Common.{◌≡◌, false, [], ◌∷◌, Some, inl, refl, ap, sym, arith}
use Rattle.std.proofs.lemmas.Fmt.{decimal_digit}
use Rattle.std.specs.Prelude.{codes}
use Rattle.program_words.specs.Commands.{asked}
use Rattle.program_words.specs.declared.reading.Command.TheVariants.{Init, Restart, Run, Serve, Session}
use Rattle.program_words.proofs.Complete.{form_asked}
use Rattle.headline_tests.specs.Example.{run_words}

pub init_asked : asked (codes "init" ∷ []) ≡ Some (Init false false)
init_asked = form_asked (Init false false) (codes "init" ∷ []) refl

pub session_asked : asked (codes "session" ∷ []) ≡ Some Session
session_asked = form_asked Session (codes "session" ∷ []) refl

pub restart_asked : asked (codes "restart" ∷ []) ≡ Some Restart
restart_asked = form_asked Restart (codes "restart" ∷ []) refl

pub serve_asked : asked (codes "serve" ∷ []) ≡ Some Serve
serve_asked = form_asked Serve (codes "serve" ∷ []) refl

pub run_asked : asked run_words ≡ Some (Run 3)
run_asked = form_asked (Run 3) run_words (codes "--workers" ∷ codes "3" ∷ [], refl, inl (omega arith, omega arith, ap (λ word. codes "--workers" ∷ word ∷ []) (sym (decimal_digit 3 (omega arith)))))
