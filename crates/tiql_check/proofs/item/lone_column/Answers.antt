use Rattle.tiql_check.proofs.Items.{lone-Int, lone-Text, lone-Column, lone-Sum, lone-Product, lone-Neg, lone-Abs}
use Rattle.tiql_check.proofs.item.lone_column.Goals as goal

pub returns-in-Int : goal.returns-in-Int
returns-in-Int c = lone-Int _ _ c.in-Int.is

pub returns-in-Text : goal.returns-in-Text
returns-in-Text c = lone-Text _ _ c.in-Text.is

pub returns-in-Column : goal.returns-in-Column
returns-in-Column c = lone-Column _ _ c.in-Column.is

pub returns-in-Sum : goal.returns-in-Sum
returns-in-Sum c = lone-Sum _ _ c.in-Sum.is

pub returns-in-Product : goal.returns-in-Product
returns-in-Product c = lone-Product _ _ c.in-Product.is

pub returns-in-Neg : goal.returns-in-Neg
returns-in-Neg c = lone-Neg _ _ c.in-Neg.is

pub returns-in-Abs : goal.returns-in-Abs
returns-in-Abs c = lone-Abs _ _ c.in-Abs.is
