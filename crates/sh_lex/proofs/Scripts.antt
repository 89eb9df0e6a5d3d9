-- A script has one list of tokens or one refusal.
use Rattle.std.proofs.Common.{◌≡◌, ℕ, zero, suc, ◌<◌, ◌≤◌, List, [], ◌∷◌, ◌++◌, length, Result, Ok, Err, refl, sym, ◌∙◌, ap, subst, append_assoc, inl, inr, arith}
use Rattle.std.proofs.lemmas.Bool.{cases_lt}
use Rattle.sh_lex.specs.Acts.{Found, nothing, gap, open_parenthesis, close_parenthesis, token, word, offence}
use Rattle.sh_lex.proofs.Shrinking.{BeginsWord, LeavesLess}
use Rattle.sh_lex.specs.Operators.{lexeme}
use Rattle.sh_lex.specs.Reads.{Outcome, past, refused, Reads, StopsReading}
use Rattle.sh_lex.specs.Inner.Lexing.{StopsAt}
use Rattle.sh_lex.specs.declared.reading.ScanStop.{ScanStop}
use Rattle.sh_lex.specs.declared.reading.ScanStop.TheVariants as stop
use Rattle.sh_lex.specs.Lexes.{Lexes, IsRefused, Offence, HasTokens, HasRefusal, HasOneReading, told, one_word, token_between, after_token, Tokens, no_token, skips, opens, closes, takes, takes_word, refused_word, refused_token}
use Rattle.sh_lex.proofs.Shorter.{lexeme-LeavesLess}
use Rattle.sh_lex.proofs.Readings.{Reads-same, Reads-some, word-shorter}
use Rattle.sh_lex.specs.declared.parts.Fault.{Fault}
use Rattle.sh_lex.specs.declared.parts.Fault.TheVariants as fault
use Rattle.sh_lex.specs.declared.lexing.TheConstants.{MAX_SCRIPT}
use Rattle.sh_lex.specs.declared.refusals.Static.{Static}
use Rattle.sh_lex.specs.declared.refusals.Static.TheVariants as static
use Rattle.sh_lex.specs.declared.tokens.Token.{Token}
use Rattle.sh_lex.specs.declared.tokens.TokenKind.TheVariants as kind
use Rattle.sh_lex.specs.declared.tokens.Op.TheVariants as op

-- what was found at a text leaves less of it
pub less_at : (text : List ℕ) (found : Found) → found ≡ lexeme text → LeavesLess text found
less_at text found e = subst (λ f. LeavesLess text f) (sym e) (lexeme-LeavesLess text)

-- the result with more tokens in front
abbrev pub after_tokens : List Token → Result (List Token) Fault → Result (List Token) Fault
after_tokens first (Ok tokens) = Ok (first ++ tokens)
after_tokens first (Err fault) = Err fault

pub after_tokens-none : (end : Result (List Token) Fault) → after_tokens [] end ≡ end
after_tokens-none (Ok tokens) = refl
after_tokens-none (Err fault) = refl

pub after_tokens-last : (first : List Token) (last : Token) (end : Result (List Token) Fault)
    → after_tokens (first ++ last ∷ []) end ≡ after_tokens first (after_token last end)
after_tokens-last first last (Ok tokens) = ap Ok (append_assoc first (last ∷ []) tokens)
after_tokens-last first last (Err fault) = refl

-- what is told at a text, by what begins there
abbrev pub FollowsWord : ℕ → List ℕ → Outcome → Result (List Token) Fault → Type 0
FollowsWord total text (past rest) end = (behind : Result (List Token) Fault)
    × (Tokens total rest behind × (end ≡ after_token (token_between total kind.Word text rest) behind))
FollowsWord total text (refused fault) end = end ≡ Err fault

abbrev pub TokensAt : ℕ → List ℕ → Found → Result (List Token) Fault → Type 0
TokensAt total text nothing end = end ≡ Ok []
TokensAt total text (gap rest) end = Tokens total rest end
TokensAt total text (open_parenthesis rest) end = (behind : Result (List Token) Fault)
    × (Tokens total rest behind × (end ≡ after_token (token_between total (kind.Op op.Open) text rest) behind))
TokensAt total text (close_parenthesis rest) end = (behind : Result (List Token) Fault)
    × (Tokens total rest behind × (end ≡ after_token (token_between total (kind.Op op.Close) text rest) behind))
TokensAt total text (token kind rest) end = (behind : Result (List Token) Fault)
    × (Tokens total rest behind × (end ≡ after_token (token_between total kind text rest) behind))
TokensAt total text word end = (outcome : Outcome) × (Reads one_word text outcome × FollowsWord total text outcome end)
TokensAt total text (offence fault) end = end ≡ Err fault

module _ {total : ℕ} where
  tokens_at : {text : List ℕ} {end : Result (List Token) Fault} → Tokens total text end → TokensAt total text (lexeme text) end
  tokens_at {text = text} (no_token e) = subst (λ f. TokensAt total text f (Ok [])) (sym e) refl
  tokens_at {text = text} (skips {end = end} e more) = subst (λ f. TokensAt total text f end) (sym e) more
  tokens_at {text = text} {end = all} (opens {end = end} e more) =
      subst (λ f. TokensAt total text f all) (sym e) (end, (more, refl))
  tokens_at {text = text} {end = all} (closes {end = end} e more) =
      subst (λ f. TokensAt total text f all) (sym e) (end, (more, refl))
  tokens_at {text = text} {end = all} (takes {end = end} e more) =
      subst (λ f. TokensAt total text f all) (sym e) (end, (more, refl))
  tokens_at {text = text} {end = all} (takes_word {rest = rest} {end = end} e reads more) =
      subst (λ f. TokensAt total text f all) (sym e) (past rest, (reads, (end, (more, refl))))
  tokens_at {text = text} (refused_word {fault = fault} e reads) =
      subst (λ f. TokensAt total text f (Err fault)) (sym e) (refused fault, (reads, refl))
  tokens_at {text = text} (refused_token {fault = fault} e) = subst (λ f. TokensAt total text f (Err fault)) (sym e) refl

  -- one result
  pub Tokens-same : {text : List ℕ} {one other : Result (List Token) Fault} → Tokens total text one → Tokens total text other
      → one ≡ other
  Tokens-same {text = text} {other = other} (no_token e) second =
      sym (subst (λ f. TokensAt total text f other) e (tokens_at second))
  Tokens-same {text = text} {other = other} (skips e more) second =
      Tokens-same more (subst (λ f. TokensAt total text f other) e (tokens_at second))
  Tokens-same {text = text} {other = other} (opens {rest = rest} e more) second =
      let found = subst (λ f. TokensAt total text f other) e (tokens_at second) in
      ap (λ end. after_token (token_between total (kind.Op op.Open) text rest) end) (Tokens-same more found.1.0) ∙ sym found.1.1
  Tokens-same {text = text} {other = other} (closes {rest = rest} e more) second =
      let found = subst (λ f. TokensAt total text f other) e (tokens_at second) in
      ap (λ end. after_token (token_between total (kind.Op op.Close) text rest) end) (Tokens-same more found.1.0) ∙ sym found.1.1
  Tokens-same {text = text} {other = other} (takes {rest = rest} {kind = kind} e more) second =
      let found = subst (λ f. TokensAt total text f other) e (tokens_at second) in
      ap (λ end. after_token (token_between total kind text rest) end) (Tokens-same more found.1.0) ∙ sym found.1.1
  Tokens-same {text = text} {other = other} (takes_word {rest = rest} e reads more) second =
      let found = subst (λ f. TokensAt total text f other) e (tokens_at second) in
      let behind : FollowsWord total text (past rest) other
      = subst (λ o. FollowsWord total text o other) (sym (Reads-same reads found.1.0)) found.1.1 in
      ap (λ end. after_token (token_between total kind.Word text rest) end) (Tokens-same more behind.1.0) ∙ sym behind.1.1
  Tokens-same {text = text} {other = other} (refused_word {fault = fault} e reads) second =
      let found = subst (λ f. TokensAt total text f other) e (tokens_at second) in
      let behind : FollowsWord total text (refused fault) other
      = subst (λ o. FollowsWord total text o other) (sym (Reads-same reads found.1.0)) found.1.1 in
      sym behind
  Tokens-same {text = text} {other = other} (refused_token e) second =
      sym (subst (λ f. TokensAt total text f other) e (tokens_at second))

-- and there is some result
abbrev Some_tokens : ℕ → List ℕ → Type 0
Some_tokens total text = (end : Result (List Token) Fault) × Tokens total text end

word_some : (total : ℕ) (text : List ℕ) (count : ℕ) → ((left : List ℕ) → length left < count → Some_tokens total left)
    → length text < suc count → lexeme text ≡ word → BeginsWord text → (outcome : Outcome) → Reads one_word text outcome
    → Some_tokens total text
word_some total text count less h e begins (past rest) reads =
    let shorter : length rest < length text = word-shorter text rest begins reads in
    let found = less rest (omega arith) in
    (after_token (token_between total kind.Word text rest) found.0, takes_word e reads found.1)
word_some total text count less h e begins (refused fault) reads = (Err fault, refused_word e reads)

some_at : (total : ℕ) (text : List ℕ) (count : ℕ) → ((left : List ℕ) → length left < count → Some_tokens total left)
    → length text < suc count → (found : Found) → lexeme text ≡ found → LeavesLess text found → Some_tokens total text
some_at total text count less h nothing e s = (Ok [], no_token e)
some_at total text count less h (gap rest) e s = let found = less rest (omega arith) in (found.0, skips e found.1)
some_at total text count less h (open_parenthesis rest) e s =
    let found = less rest (omega arith) in
    (after_token (token_between total (kind.Op op.Open) text rest) found.0, opens e found.1)
some_at total text count less h (close_parenthesis rest) e s =
    let found = less rest (omega arith) in
    (after_token (token_between total (kind.Op op.Close) text rest) found.0, closes e found.1)
some_at total text count less h (token kind rest) e s =
    let found = less rest (omega arith) in (after_token (token_between total kind text rest) found.0, takes e found.1)
some_at total text count less h word e s =
    let found = Reads-some one_word text in word_some total text count less h e s found.0 found.1
some_at total text count less h (offence fault) e s = (Err fault, refused_token e)

some_below : (total count : ℕ) (text : List ℕ) → length text < count → Some_tokens total text
some_below total zero text h = absurd (omega arith)
some_below total (suc count) text h =
    some_at total text count (some_below total count) h (lexeme text) refl (lexeme-LeavesLess text)

pub Tokens-some : (total : ℕ) (text : List ℕ) → (end : Result (List Token) Fault) × Tokens total text end
Tokens-some total text = some_below total (suc (length text)) text (omega arith)

-- the scan stops in a word
pub stops_in_word : (text : List ℕ) (stopped : ScanStop) → lexeme text ≡ word → StopsReading one_word text stopped
    → (total : ℕ) → StopsAt total text stopped
stops_in_word text (stop.Refused fault) e reads total = refused_word e reads
stops_in_word text stop.Memory e reads total = tt

-- the scan stops behind some tokens
pub stops_behind : (total : ℕ) (text rest : List ℕ) (first : List Token) (stopped : ScanStop)
    → ((end : Result (List Token) Fault) → Tokens total rest end → Tokens total text (after_tokens first end))
    → StopsAt total rest stopped → StopsAt total text stopped
stops_behind total text rest first (stop.Refused fault) behind met = behind (Err fault) met
stops_behind total text rest first stop.Memory behind met = tt

-- the whole script
module _ (text : List ℕ) where
  not_both : (tokens : List Token) (refusal : Static) → Lexes text tokens → Offence text refusal → ⊥
  not_both tokens static.ScriptTooLong l o = omega (arith, l.short)
  not_both tokens _ l o = let both : Ok tokens ≡ Err o.fault = Tokens-same l.read o.met in cc

  pub has_tokens : (tokens : List Token) → length text ≤ MAX_SCRIPT → Tokens (length text) text (Ok tokens) → HasTokens text tokens
  has_tokens tokens short reads = record {
    lexed = record { short = short; read = reads };
    only = λ others l. let both : Ok others ≡ Ok tokens = Tokens-same l.read reads in cc;
    not_refused = λ refusal o. not_both tokens refusal (record { short = short; read = reads }) o;
  }

  offence_told : (fault : Fault) → IsRefused text (told text fault) → Offence text (told text fault)
  offence_told (fault.UnclosedQuote left) r = r
  offence_told (fault.UnclosedBrace left) r = r
  offence_told (fault.TooDeep left) r = r
  offence_told (fault.Spelled spelling left) r = r
  offence_told (fault.Number left) r = r

  only_told : (fault : Fault) → length text ≤ MAX_SCRIPT → Tokens (length text) text (Err fault) → (other : Static)
      → Offence text other → other ≡ told text fault
  only_told fault short met static.ScriptTooLong o = absurd (omega arith)
  only_told fault short met _ o =
      let both : Err o.fault ≡ Err fault = Tokens-same o.met met in
      let same : o.fault ≡ fault = cc in o.as_told ∙ ap (told text) same

  pub has_refusal : (fault : Fault) → length text ≤ MAX_SCRIPT → Tokens (length text) text (Err fault)
      → HasRefusal text (told text fault)
  has_refusal fault short met =
      let offence : Offence text (told text fault)
      = offence_told fault (record { short = short; fault = fault; met = met; as_told = refl }) in
      record {
        met = offence;
        only = only_told fault short met;
        not_lexed = λ tokens l. not_both tokens (told text fault) l offence;
      }

  only_long : MAX_SCRIPT < length text → (other : Static) → Offence text other → other ≡ static.ScriptTooLong
  only_long long static.ScriptTooLong o = refl
  only_long long _ o = absurd (omega (arith, o.short))

  pub too_long : MAX_SCRIPT < length text → HasRefusal text static.ScriptTooLong
  too_long long = record {
    met = long;
    only = only_long long;
    not_lexed = λ tokens l. absurd (omega (arith, l.short));
  }

  one_result : length text ≤ MAX_SCRIPT → (end : Result (List Token) Fault) → Tokens (length text) text end → HasOneReading text
  one_result short (Ok tokens) reads = inl (tokens, has_tokens tokens short reads)
  one_result short (Err fault) met = inr (told text fault, has_refusal fault short met)

  pub one_reading : HasOneReading text
  one_reading =
      elim (cases_lt MAX_SCRIPT (length text)) [
        | inl long ↦ inr (static.ScriptTooLong, too_long long)
        | inr short ↦ let found = Tokens-some (length text) text in one_result short found.0 found.1
      ]
