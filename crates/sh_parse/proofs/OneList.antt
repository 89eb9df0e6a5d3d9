-- A text has at most one list of items.
use Rattle.std.proofs.Common.{◌≡◌, ℕ, List, sym, ap, ◌∙◌}
use Rattle.sh_parse.specs.Texts.{items_of, HasItems}
use Rattle.sh_parse.specs.declared.items.Item.{Item}

pub one_list : (text : List ℕ) (one other : List Item) → HasItems text one → HasItems text other → one ≡ other
one_list text one other first second =
    let same : second.marks ≡ first.marks = first.marked.only second.marks second.marked.marked in
    first.stands_for ∙ ap (items_of text) (sym same) ∙ sym second.stands_for
