-- Why items are no script, and how the code tells it.
use Rattle.std.specs.Prelude.{List}
use Rattle.sh_lex.specs.declared.refusals.Static.{Static}
use Rattle.sh_lex.specs.declared.refusals.Static.TheVariants as static
use Rattle.sh_parse.specs.Pieces.{WordViews}
use Rattle.sh_parse.specs.Outcomes.{EndsAt}
use Rattle.sh_parse.specs.declared.items.Item.{Item}
use Rattle.sh_parse.specs.declared.misuses.Misuse.{Misuse}
use Rattle.sh_parse.specs.declared.misuses.Misuse.TheVariants as misuse
use Rattle.sh_parse.specs.declared.refusals.GrammarRefusal.{GrammarRefusal}
use Rattle.sh_parse.specs.declared.refusals.GrammarRefusal.TheVariants as grammar
use Rattle.sh_parse.specs.declared.refusals.SyntaxRefusal.TheVariants as refusal
use Rattle.sh_parse.specs.declared.scripts.ParseRefusal.{ParseRefusal}
use Rattle.sh_parse.specs.declared.scripts.ParseRefusal.TheVariants as parse

-- the items are refused so; want of memory is free
abbrev pub RefusesItems : WordViews → List Item → ParseRefusal → Type 0
RefusesItems views items (parse.Refused told) = EndsAt told views items
RefusesItems views items parse.Memory = Unit {0}

-- how a misuse is told, and that items are no script
abbrev pub of_misuse : Misuse → Static
of_misuse (misuse.Form offset) = static.ParameterForm offset
of_misuse (misuse.Mix offset) = static.SubstitutionMix offset

abbrev pub of_grammar : GrammarRefusal → ParseRefusal
of_grammar (grammar.Refused refusal.BadSyntax) = parse.Refused static.BadSyntax
of_grammar (grammar.Refused (refusal.TooDeep offset)) = parse.Refused (static.TooDeep offset)
of_grammar grammar.Memory = parse.Memory
