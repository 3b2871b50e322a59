use Rattle.bptree_tree.proofs.PageLemmas.{all_pages, later_page}
use Rattle.bptree_map.proofs.map.pages.laws_of_pages.Goals as goal

pub returns-clause-all : goal.returns-clause-all
returns-clause-all g c = λ l s some. all_pages l s some

pub returns-clause-later : goal.returns-clause-later
returns-clause-later g c = λ l p s some later. later_page l s p some later
