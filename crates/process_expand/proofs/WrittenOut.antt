-- A block is written with what follows its choices at the end of each way.
use Rattle.std.proofs.Common.{◌≡◌, ◌∙◌, List, [], ◌∷◌, ◌++◌, refl, ap}
use Rattle.process_expand.specs.declared.tokens.Role.{Role}
use Rattle.process_expand.specs.declared.tokens.Role.TheVariants.{Begins, Ends, Opens, Divides, Closes, Follows, Kind, Name, Other}
use Rattle.process_expand.specs.declared.tokens.Token.{Token}
use Rattle.process_expand.specs.Expansion.{State, begin, divide, in_front, put}
use Rattle.process_expand.specs.Trees.{Block, Ways, ends, word, choice, last, more, words_of, words_of_ways, written_out, written_ways, in_front_all, HasRoles, HaveRoles, IsOfStep, BlocksAreWrittenOut}

put_there : (r : Role) (t : Token) (s : State) → IsOfStep r → in_front r t s ≡ put t s
put_there Kind t s is = refl
put_there Name t s is = refl
put_there Other t s is = refl
put_there Begins t s is = absurd is
put_there Ends t s is = absurd is
put_there Opens t s is = absurd is
put_there Divides t s is = absurd is
put_there Closes t s is = absurd is
put_there Follows t s is = absurd is

-- with this text
abbrev with_text : State → List Token → State
with_text s text = record { text = text; frames = s.frames }

-- the first way of a choice, and what stands behind it
abbrev first_way : Ways → List Token → List Token
first_way (last b closes) rest = written_out b rest
first_way (more b divides ways) rest = written_out b rest

abbrev behind_first : Ways → List Token → List Token
behind_first (last b closes) rest = closes ∷ []
behind_first (more b divides ways) rest = divides ∷ written_ways ways rest

both : (ways : Ways) (rest : List Token) → first_way ways rest ++ behind_first ways rest ≡ written_ways ways rest
both (last b closes) rest = refl
both (more b divides ways) rest = refl

-- the first way is written as the text, and what stands behind it in the frame of its choice
abbrev opened : State → Ways → State
opened s ways =
    record { text = first_way ways s.text; frames = record { rest = s.text; written = behind_first ways s.text } ∷ s.frames }

mutual
  block : (b : Block) → HasRoles b → (behind : List Token) (s : State) → in_front_all (words_of b behind) s
      ≡ with_text (in_front_all behind s) (written_out b (in_front_all behind s).text)
  block ends has behind s = refl
  block (word t b) has behind s =
      put_there t.role t (in_front_all (words_of b behind) s) has.0 ∙ ap (put t) (block b has.1 behind s)
  block (choice opens ways follows b) has behind s =
      let u : State = in_front_all (follows ∷ words_of b behind) s in
      let followed : u ≡ in_front_all (words_of b behind) s = ap (λ (r : Role). in_front r follows (in_front_all (words_of b behind) s)) has.2 in
      ap (λ (r : Role). in_front r opens (in_front_all (words_of_ways ways (follows ∷ words_of b behind)) s)) has.0
      ∙ ap (λ (v : State). begin opens v.text v.frames) (ways_of ways has.1 (follows ∷ words_of b behind) s)
      ∙ ap (λ (w : List Token). with_text u (opens ∷ w)) (both ways u.text)
      ∙ ap (λ (v : State). with_text v (opens ∷ written_ways ways v.text)) (followed ∙ block b has.3 behind s)

  ways_of : (ways : Ways) → HaveRoles ways → (behind : List Token) (s : State) → in_front_all (words_of_ways ways behind) s ≡ opened (in_front_all behind s) ways
  ways_of (last b closes) has behind s =
      block b has.0 (closes ∷ behind) s
      ∙ ap (λ (r : Role). with_text (in_front r closes (in_front_all behind s)) (written_out b (in_front r closes (in_front_all behind s)).text)) has.1
  ways_of (more b divides ways) has behind s =
      let u : State = in_front_all behind s in
      let v : State = in_front_all (words_of_ways ways behind) s in
      block b has.0 (divides ∷ words_of_ways ways behind) s
      ∙ ap (λ (r : Role). with_text (in_front r divides v) (written_out b (in_front r divides v).text)) has.1
      ∙ ap (λ (w : State). with_text (divide divides w.text w.frames) (written_out b (divide divides w.text w.frames).text)) (ways_of ways has.2 behind s)
      ∙ ap (λ (w : List Token). record { text = written_out b u.text; frames = record { rest = u.text; written = divides ∷ w } ∷ u.frames }) (both ways u.text)

pub blocks_are_written_out : BlocksAreWrittenOut
blocks_are_written_out b has s = block b has [] s
