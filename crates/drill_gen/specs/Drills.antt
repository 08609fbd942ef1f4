-- The bytes of a drill: its query, and its table of eight items for each supplier.
use Rattle.std.specs.Prelude.{ℕ, ◌+◌, ◌-◌, ◌*◌, ◌/◌, ◌%◌, List, ◌++◌, codes, decimal, flat_map}
use Rattle.std.specs.List.{range_with_len}

-- the query
abbrev pub query_text : List ℕ
query_text =
    codes "TABLE item (id INT, sup TEXT, price INT, qty INT) KEY (id);\n"
    ++ codes "HYPO h FROM item SET qty IN 0 .. qty;\n"
    ++ codes "VIEW load AS SELECT sup, SUM(qty) AS n FROM h GROUP BY sup;\n"
    ++ codes "REQUIRE ALL load HAVE n <= 12;\n"
    ++ codes "MAXIMIZE SUM(price * qty) FROM h;\n"

-- the names of the table's columns
abbrev pub header : List ℕ
header = codes "id,sup,price,qty\n"

-- eight items in turn are of one supplier
abbrev pub supplier_of : ℕ → ℕ
supplier_of id = (id - 1) / 8 + 1

-- what one of an item costs
abbrev pub price_of : ℕ → ℕ
price_of id = 1 + 37 * id % 50

-- how many of an item there are at most
abbrev pub quantity_of : ℕ → ℕ
quantity_of id = 1 + 11 * id % 9

-- the line of an item
unfoldable pub item_line : ℕ → List ℕ
item_line id = decimal id ++ codes ",s" ++ decimal (supplier_of id) ++ codes "," ++ decimal (price_of id) ++ codes "," ++ decimal (quantity_of id) ++ codes "\n"

-- the lines of the items with the numbers 1 up to a last one
abbrev pub items_text : ℕ → List ℕ
items_text last = flat_map item_line (range_with_len 1 last)

-- the table for so many suppliers
abbrev pub table_text : ℕ → List ℕ
table_text suppliers = header ++ items_text (8 * suppliers)
