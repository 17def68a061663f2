mod ConvertLaws
